-- `points::ends::area_at` meets its contract: so far the words of the dimensions passed are read. Assumes nothing.
use mathlib.Core.Path.{sym}
use native.Mathlib.Omega.{arith}
use Rattle.points.specs.Area.{area_by}
use Rattle.points.proofs.Runs.{area-is}
use Rattle.points.proofs.ends.area_at.Goals as goal

pub returns : goal.returns
returns c =
    let l = c.loop-d in
    let i = l.invariant in
    sym (area-is c.args.words.now c.args.at (area_by l.low l.high) i.0 i.1 (λ d h. i.2 d (omega arith)) (λ d h. i.3 d (omega arith)))
