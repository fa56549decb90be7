-- `layout::find::first_fit` meets its contract: the table is a part of the one that was lent, and a settled table that is fixed is a placement.
-- Assumes nothing.
use Rattle.sheet.specs.Settle.{extent}
use Rattle.splits.specs.Splits.{Part}
use Rattle.layout.proofs.find.first_fit.Given as goal

abbrev pub invariant-loop-table : goal.invariant-loop-table
invariant-loop-table l = Part l.block l.initial.table l.table

abbrev pub decreases-loop-table : goal.decreases-loop-table
decreases-loop-table l = extent l.block l.table
