-- `nearby::due::threatens_row` meets its contract: so far the shapes passed are forbidden no point of row i's ranges, and none is left where
-- its set is below the next. Assumes nothing.
use Prim.Native.Nat.{ℕ, ◌≤◌}
use Rattle.nearby.specs.Due.{ShapeHarmless}
use Rattle.nearby.proofs.due.threatens_row.Given as goal

abbrev pub invariant-loop-s : goal.invariant-loop-s
invariant-loop-s l = (m : ℕ) → 1 ≤ m → m ≤ l.s → ShapeHarmless l.block l.table l.r.number l.j.number l.t l.i.number m
