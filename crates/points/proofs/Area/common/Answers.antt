-- `Area::common` meets its contract: so far the area is cut to the other's bounds in each dimension passed. Assumes nothing.
use mathlib.Core.Path.{◌≡◌, ap₂}
use native.Mathlib.Omega.{arith}
use lib.IntN.{ℤ}
use Rattle.integers.specs.Integer.{within}
use Rattle.integers.specs.Words.{word}
use Rattle.points.specs.Area.{in_at, in_area}
use Rattle.points.proofs.Sums.{near-back}
use Rattle.points.proofs.Cut.{cuts-same, cuts-zero, cuts-more}
use Rattle.points.proofs.Area.common.Goals as goal

pub loop-d-init : goal.loop-d-init
loop-d-init c = cuts-zero _

pub loop-d-preserved : goal.loop-d-preserved
unfolding in_at
loop-d-preserved c =
    let small = c.requires.1 in
    let d = c.loop-d.d in
    cuts-more _ c.loop-d.invariant
    (cuts-same (λ p. ap₂ (λ (x y : ℤ). within x y (word p d)) (near-back (small.lows d)) (near-back (small.highs d)))
    (c.within-area.ensures _ c.loop-d-test.true))

pub returns : goal.returns
unfolding in_area
returns c = let q : c.loop-d.d ≡ c.args.k = omega arith in rw q at c.loop-d.invariant
