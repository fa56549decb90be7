-- `ends::take_in` meets its contract: so far the ends in the dimensions passed are taken out. Assumes nothing.
use mathlib.Core.Path.{◌≡◌}
use native.Mathlib.Omega.{arith}
use lib.ListN.{length}
use mir.Facts.{to_z-of_z}
use Rattle.points.specs.Area.{area_words}
use Rattle.points.proofs.Sums.{max_is, min_is}
use Rattle.points.proofs.Takes.{taken_more}
use Rattle.points.proofs.ends.take_in.Goals as goal

pub loop-d-preserved : goal.loop-d-preserved
loop-d-preserved c =
    let w = c.loop-d in
    let long : length w.ends ≡ area_words = omega arith in
    taken_more w.ends w.d _ _ long c.loop-d-test.true w.invariant (grind (arith, to_z-of_z, min_is)) (grind (arith, to_z-of_z, max_is))
