-- `grid::line_start` meets its contract: start is the line's first cell in the dimensions before d. Assumes nothing.
use Rattle.grid.proofs.Lines.{Upto}
use Rattle.grid.proofs.line_start.Given as goal

abbrev pub invariant-loop-d : goal.invariant-loop-d
invariant-loop-d l = Upto l.widths l.brick.from l.brick.size l.j l.d l.start l.step l.rest
