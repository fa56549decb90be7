-- `outline::solid::put_hulls` meets its contract: the hulls of the shapes below s that have a box are put. Assumes nothing.
use mathlib.Core.List.{List}
use Prim.Native.Nat.{ℕ, ◌<◌}
use lib.IntN.{ℤ}
use Rattle.sheet.specs.Accepted.{Boxed}
use Rattle.outline.specs.Places.{hull_of, solid_at, SameTo}
use Rattle.outline.specs.Solids.{Hull}
use Rattle.outline.proofs.solid.put_hulls.Given as goal

-- from the run o to o', in which the hulls of the shapes below s are put
abbrev pub Put : List ℤ → List ℤ → ℕ → List ℤ → Type 0
Put block o s o' = SameTo (solid_at (hull_of 0)) o o' × ((t : ℕ) → t < s → Boxed block t → Hull block o' t)

abbrev pub invariant-loop-s : goal.invariant-loop-s
invariant-loop-s l = Put l.block l.initial.outline l.s l.outline
