-- `input::read_input` meets its contract: what a read puts there stands behind what was read before. Assumes nothing.
use Rattle.std.proofs.Common.{rules, subst, sym}
use Rattle.std.specs.Io.KnownBytes.{Consumes}
use Rattle.std.proofs.KnownBytes.{Consumes-trans}
use Rattle.room.proofs.Filled.{filled}
use Rattle.room.proofs.input.read_input.Goals as goal

pub loop-n-preserved : goal.loop-n-preserved
loop-n-preserved g c =
    let l = c.loop-n in
    let read = c.in-Ok.ensures in
    let front = filled l.n c.in-Ok.more l.text c.read_some.new.buf (search rules) (search rules) in
    let all = Consumes-trans _ _ _ _ _ l.invariant.1 read.bytes.0 in
    (search rules, subst (Consumes _ _) (sym front) all)
