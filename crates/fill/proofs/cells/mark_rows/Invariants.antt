-- `fill::cells::mark_rows` meets its contract: the cells of the rule's rows up to m are marked. Assumes nothing.
use Rattle.sheet.specs.Fill.{room_cells}
use Rattle.fill.specs.Room.{Adds}
use Rattle.fill.proofs.Covers.{rows_to}
use Rattle.fill.proofs.cells.mark_rows.Given as goal

abbrev pub invariant-loop-m : goal.invariant-loop-m
invariant-loop-m l = Adds (room_cells l.block l.r.number) (rows_to l.block l.table l.r.number l.m) l.initial.marks l.marks
