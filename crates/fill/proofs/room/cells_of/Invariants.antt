-- `fill::room::cells_of` meets its contract: the product of the widths so far is kept, and is from 1 to 4,096. Assumes nothing.
use mathlib.Core.Path.{◌≡◌}
use Prim.Native.Nat.{◌≤◌}
use Rattle.fill.proofs.Rooms.{cells_to}
use Rattle.fill.proofs.room.cells_of.Given as goal

abbrev pub invariant-loop-d : goal.invariant-loop-d
invariant-loop-d l = (l.n ≡ cells_to l.block l.r.number l.d) × (1 ≤ l.n) × (l.n ≤ 4096)
