-- `splits::pick::gain_in_row` meets its contract: the columns one after another. Assumes nothing.
use Rattle.splits.specs.Picks.{Gains}
use Rattle.splits.proofs.pick.gain_in_row.Given as goal

abbrev pub invariant-loop-column : goal.invariant-loop-column
invariant-loop-column l = Gains l.block l.table l.i.number l.column l.best
