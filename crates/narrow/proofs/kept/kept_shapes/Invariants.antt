-- `kept::kept_shapes` meets its contract: so far what is kept is that of the shapes passed. Assumes nothing.
use Rattle.narrow.specs.Shapes.{KeptTo}
use Rattle.narrow.proofs.kept.kept_shapes.Given as goal

abbrev pub invariant-loop-s : goal.invariant-loop-s
invariant-loop-s l = KeptTo l.block l.table l.i.number l.s l.shapes l.ends
