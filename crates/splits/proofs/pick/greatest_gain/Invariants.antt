-- `splits::pick::greatest_gain` meets its contract: the rows one after another. Assumes nothing.
use Rattle.splits.specs.Picks.{Gains}
use Rattle.splits.proofs.pick.greatest_gain.Given as goal

abbrev pub invariant-loop-row : goal.invariant-loop-row
invariant-loop-row l = Gains l.block l.table l.row 0 l.best
