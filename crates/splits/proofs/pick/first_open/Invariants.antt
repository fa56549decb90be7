-- `splits::pick::first_open` meets its contract: the rows passed are fixed. Assumes nothing.
use mathlib.Core.Path.{◌≡◌}
use mathlib.Core.Bool.{true}
use Prim.Native.Nat.{ℕ, ◌≤◌, ◌<◌}
use Rattle.sheet.specs.Placement.{row_fixed}
use Rattle.splits.proofs.pick.first_open.Given as goal

abbrev pub invariant-loop-row : goal.invariant-loop-row
invariant-loop-row l = (i : ℕ) → 1 ≤ i → i < l.row → row_fixed l.block l.table i ≡ true
