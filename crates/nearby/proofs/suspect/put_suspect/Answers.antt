-- `nearby::suspect::put_suspect` meets its contract: two words and an area are written one after the other. Assumes nothing.
use mathlib.Core.Path.{◌∙◌}
use mathlib.Core.Logic.{inl}
use Prim.Native.Nat.{◌+◌}
use native.Mathlib.Omega.{arith}
use lib.IntN.{pos}
use lib.ListN.{set, length-set}
use lib.Seq.{get_or-set_same, get_or-set_other}
use mir.Syntax.{w64}
use mir.Val.{to_z}
use mir.Facts.{to_z_pos}
use Rattle.nearby.specs.Places.{suspect_at}
use Rattle.points.proofs.Runs.{same_none, same_set, same_then}
use Rattle.nearby.proofs.suspect.put_suspect.Goals as goal

pub bounds-suspects-at-2 : goal.bounds-suspects-at-2
bounds-suspects-at-2 c = simp length-set (omega (arith, c.requires.0))

pub put_area-requires : goal.put_area-requires
put_area-requires c = simp length-set (omega (arith, c.requires.0))

pub shape_of-suspects : goal.shape_of-suspects
shape_of-suspects c =
    c.put_area.ensures.0.long ∙ length-set (set c.args.suspects.now (suspect_at c.args.e) (to_z w64 c.args.r)) _ _
    ∙ length-set c.args.suspects.now _ _

pub returns : goal.returns
returns c =
    let l = c.args.suspects.now in
    let at = suspect_at c.args.e in
    let u = to_z w64 c.args.r in
    let v = to_z w64 c.args.j in
    let x = c.put_area.ensures in
    let one = set l at u in
    let two = set one (at + 1) v in (
      same_then (same_set (at + 1) v (same_set at u (same_none _ _ l) (omega arith) (omega arith)) (omega arith) (omega arith)) x.0
          (omega arith) (omega arith),
      x.0.words at (inl (omega arith)) ∙ get_or-set_other one (at + 1) at v (pos 0) (λ q. omega arith)
          ∙ get_or-set_same l at u (pos 0) (omega (arith, c.requires.0)) ∙ to_z_pos w64 {n = c.args.r} (omega (arith, c.requires.1)),
      x.0.words (at + 1) (inl (omega arith)) ∙ get_or-set_same one (at + 1) v (pos 0) (omega (arith, c.requires.0, length-set l at u))
          ∙ to_z_pos w64 {n = c.args.j} (omega (arith, c.requires.2)),
      x.1,
    )
