-- `points::ends::cut` meets its contract: in dimension d the low end becomes the larger and the high end the lesser of two. Assumes nothing.
use mathlib.Core.Path.{◌≡◌}
use Prim.Native.Nat.{◌+◌}
use lib.ListN.{set}
use native.Mathlib.Omega.{arith}
use mir.Syntax.{w64}
use mir.Val.{to_z, of_z}
use mir.Facts.{to_z-of_z}
use Rattle.integers.specs.Words.{word}
use Rattle.points.specs.Area.{coordinates, max_z, min_z}
use Rattle.points.proofs.Sums.{max_is, min_is}
use Rattle.points.proofs.Runs.{ends-cut}
use Rattle.points.proofs.ends.cut.Goals as goal

pub returns : goal.returns
returns c k h =
    let a = c.args in
    let w = a.ends.now in
    let s = c.requires in
    let low = to_z w64 (of_z w64 c.max.result) in
    let el : low ≡ max_z (word w a.d) a.low = grind (arith, to_z-of_z, max_is) in
    let eh : to_z w64 (of_z w64 c.min.result) ≡ min_z (word (set w a.d low) (coordinates + a.d)) a.high = grind (arith, to_z-of_z, min_is) in
    ends-cut w a.d s.1 s.0.below s.0.low_near s.0.high_near el eh h
