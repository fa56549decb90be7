-- `pair::pair_meets` meets its contract: so far the field is cut in each dimension passed, and a dimension that clears the row's range clears
-- every point of its ranges. Assumes nothing.
use Rattle.forbid.proofs.Solids.{Sides}
use Rattle.forbid.proofs.pair.pair_meets.Given as goal

abbrev pub invariant-loop-d : goal.invariant-loop-d
invariant-loop-d l = Sides l.block l.table l.outline l.pair l.d l.area
