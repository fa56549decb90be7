-- `ends::ahead_of` meets its contract: the end next to z fits. Assumes nothing.
use mathlib.Core.Path.{refl, ap}
use native.Mathlib.Omega.{arith}
use lib.IntN.{ℤ, pos}
use Rattle.integers.specs.Integer.{minus, within}
use Rattle.integers.specs.Words.{word}
use Rattle.integers.proofs.Machine.{bnd, num, ◌+ʷ◌, ◌-ʷ◌, sum_fits, diff-fits, exact, within-pos}
use Rattle.points.specs.Area.{reach}
use Rattle.points.proofs.Sums.{sum_is}
use Rattle.points.proofs.Cut.{cuts-same}
use Rattle.narrow.proofs.widen.ahead_of.Goals as goal

pub overflow_add-z : goal.overflow_add-z
overflow_add-z c = sum_fits (bnd c.requires.1) (num 1) tt

pub within-requires : goal.within-requires
within-requires c =
    record { below = c.requires.0; low_near = (sum_is (bnd c.requires.1 +ʷ num 1) tt refl).1; high_near = within-pos (omega arith) }

pub returns-then-flip : goal.returns-then-flip
returns-then-flip c k h =
    rw c.if-flip.true (cuts-same (λ p. ap (λ (y : ℤ). within y (pos reach) (word p c.args.d)) (exact (bnd c.requires.1 +ʷ num 1) tt))
    (c.within.ensures k h))

pub overflow_sub-z : goal.overflow_sub-z
overflow_sub-z c = diff-fits (bnd c.requires.1) (num 1) tt

pub within-requires-else-flip : goal.within-requires-else-flip
within-requires-else-flip c =
    record {
      below = c.requires.0;
      low_near = record { above = omega arith; below = omega arith };
      high_near = (sum_is (bnd c.requires.1 -ʷ num 1) tt refl).1;
    }

pub returns-else-flip : goal.returns-else-flip
returns-else-flip c k h =
    rw c.if-flip.false (cuts-same (λ p. ap (λ (y : ℤ). within (minus reach) y (word p c.args.d)) (exact (bnd c.requires.1 -ʷ num 1) tt))
    (c.within-else-flip.ensures k h))
