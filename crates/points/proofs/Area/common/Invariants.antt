-- `Area::common` meets its contract: so far the area is cut to the other's bounds in each dimension passed. Assumes nothing.
use Rattle.integers.specs.Below.{all_below}
use Rattle.integers.specs.Words.{word}
use Rattle.points.specs.Area.{in_at, Cuts}
use Rattle.points.proofs.Area.common.Given as goal

abbrev pub invariant-loop-d : goal.invariant-loop-d
invariant-loop-d l = Cuts l.k l.initial.area l.area (λ p. all_below l.d (λ e. in_at l.other e (word p e)))
