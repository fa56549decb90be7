-- `grid::count` meets its contract: c is how many of the cells so far are marked. Assumes nothing.
use mathlib.Core.Path.{◌≡◌}
use Prim.Native.Nat.{◌≤◌}
use Rattle.grid.proofs.Marks.{marked}
use Rattle.grid.proofs.count.Given as goal

abbrev pub invariant-loop-mark : goal.invariant-loop-mark
invariant-loop-mark l = (l.c ≤ l.mark-index) × (l.c ≡ marked l.marks l.mark-index)
