-- `settle::settle_rows` meets its contract: the table is on the way, and a row that is not to be narrowed does not move. Assumes nothing.
use mathlib.Core.Path.{◌≡◌}
use Prim.Native.Nat.{◌≤◌}
use Rattle.sheet.specs.Layout.{rows}
use Rattle.settle.proofs.Worked.{OnTheWay, to_go}
use Rattle.settle.proofs.settle_rows.Given as goal

abbrev pub invariant-loop-i : goal.invariant-loop-i
invariant-loop-i l = OnTheWay l.block l.initial.table l.table l.due × (l.n ≡ rows l.block l.initial.table) × (l.at ≤ l.n)

abbrev pub decreases-loop-i : goal.decreases-loop-i
decreases-loop-i l = to_go l.block (rows l.block l.initial.table) l.table l.due
