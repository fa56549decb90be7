-- `outline::solid::put_boxes` meets its contract: the boxes before b are put. Assumes nothing.
use Prim.Native.Nat.{ℕ, ◌<◌}
use Rattle.outline.specs.Places.{solid_at, SameTo}
use Rattle.outline.specs.Solids.{IsBox}
use Rattle.outline.proofs.solid.put_boxes.Given as goal

abbrev pub invariant-loop-b : goal.invariant-loop-b
invariant-loop-b l = SameTo (solid_at 0) l.initial.outline l.outline × ((c : ℕ) → c < l.b → IsBox l.block l.outline c)
