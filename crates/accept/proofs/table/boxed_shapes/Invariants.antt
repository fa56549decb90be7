-- `accept::table::boxed_shapes` meets its contract: the flag of a box is set a turn. Assumes nothing.
use Rattle.accept.proofs.Marks.{Marks}
use Rattle.accept.proofs.table.boxed_shapes.Given as goal

abbrev pub invariant-loop-b : goal.invariant-loop-b
invariant-loop-b l = Marks l.block l.b l.flags
