-- `rooms::cut_by_shape` meets its contract: so far the area is cut in each dimension passed that the rule names. Assumes nothing.
use mathlib.Core.Bool.{Bool}
use mathlib.Core.List.{List}
use Prim.Native.Nat.{ℕ, ◌≤◌}
use lib.IntN.{ℤ}
use Rattle.integers.specs.Below.{◌⇒◌, all_below}
use Rattle.sheet.specs.Layout.{axes, names_dim}
use Rattle.points.specs.Area.{Cuts, area_of}
use Rattle.region.specs.Rooms.{side_contained}
use Rattle.region.proofs.rooms.cut_by_shape.Given as goal

-- from the run u to w, cut by shape s in the dimensions below n that rule r names
module _ (block o : List ℤ) (r s : ℕ) where
  abbrev pub side_holds : ℕ → List ℤ → Bool
  side_holds d p = names_dim block r d ⇒ side_contained block o r s d p

  abbrev pub CutTo : ℕ → List ℤ → List ℤ → Type 0
  CutTo n u w = Cuts (axes block) (area_of u) (area_of w) (λ p. all_below n (λ d. side_holds d p))

abbrev pub invariant-loop-d : goal.invariant-loop-d
invariant-loop-d l = (l.d ≤ l.k) × CutTo l.block l.outline l.r.number l.s l.d l.initial.ends l.ends
