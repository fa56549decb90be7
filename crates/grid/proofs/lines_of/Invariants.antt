-- `grid::lines_of` meets its contract: n is the product of the sizes before d. Assumes nothing.
use mathlib.Core.Path.{◌≡◌}
use Rattle.grid.specs.Grid.{lines}
use Rattle.grid.proofs.lines_of.Given as goal

abbrev pub invariant-loop-d : goal.invariant-loop-d
invariant-loop-d l = l.n ≡ lines l.d l.brick.size
