-- `pair::pair_area` meets its contract: so far the field is cut in each dimension passed. Assumes nothing.
use Rattle.forbid.proofs.Solids.{Sides}
use Rattle.forbid.proofs.pair.pair_area.Given as goal

abbrev pub invariant-loop-d : goal.invariant-loop-d
invariant-loop-d l = Sides l.block l.table l.outline l.pair l.d l.area
