-- `grid::mark_brick` meets its contract: the brick's lines before j are marked. Assumes nothing.
use Rattle.integers.specs.Below.{any_below}
use Rattle.grid.proofs.Marks.{Added}
use Rattle.grid.proofs.Bricks.{on_line}
use Rattle.grid.proofs.mark_brick.Given as goal

abbrev pub invariant-loop-j : goal.invariant-loop-j
invariant-loop-j l = Added l.initial.marks l.marks (λ m. any_below l.j (λ i. on_line l.k l.widths l.brick i m))
