-- The room rules as they cut a row's points: where a shape lies in a room, and the cut box of a row with a shape.
-- Assumes nothing.
use Rattle.std.specs.Prelude.{◌≡◌, Bool, ◌&&◌, List, ℕ, ℤ, ◌-ℤ◌}
use Rattle.integers.specs.Integer.{within}
use Rattle.integers.specs.Below.{◌⇒◌, all_below, UpTo}
use Rattle.integers.specs.Words.{word}
use Rattle.sheet.specs.Layout.{axes, boxes, is_of, is_containment, names_row, room_low, room_high}
use Rattle.sheet.specs.Allowed.{box_contained, in_ranges, rooms_hold}
use Rattle.sheet.specs.Accepted.{Boxed, Block}
use Rattle.words.specs.declared.Place.{Place}
use Rattle.words.specs.Places.{RulePlace}
use Rattle.points.specs.declared.Area.{Area}
use Rattle.points.specs.Area.{in_area, Small}
use Rattle.outline.specs.Places.{hull_of, start_of, end_of}
use Rattle.outline.specs.Outline.{Outline}

module _ (block : List ℤ) where
  -- the hull of shape s lies in rule r's room in dimension d, from low − start to high − end
  unfoldable pub side_contained : List ℤ → ℕ → ℕ → ℕ → List ℤ → Bool
  side_contained o r s d p = within (room_low block r d -ℤ start_of o (hull_of s) d) (room_high block r d -ℤ end_of o (hull_of s) d) (word p d)

  -- every box of shape s lies in rule r's room
  unfoldable pub shape_contained : ℕ → ℕ → List ℤ → Bool
  shape_contained r s p = all_below (boxes block) (λ b. is_of block b s ⇒ box_contained block r b p)

  -- rule r, if it keeps row i in a room, has every box of shape s in it
  unfoldable pub room_holds : ℕ → ℕ → ℕ → List ℤ → Bool
  room_holds i s r p = is_containment block r && names_row block r i ⇒ shape_contained r s p

-- rule r and shape s of an accepted block, whose outline is o
pub record Cutting (block o : List ℤ) (r : Place) (s : ℕ) : Type 0 where
  pub accepted : Block block
  pub outline : Outline block o
  pub rule : RulePlace block r
  pub shape : Boxed block s

-- the number i of a row, and shape s of an accepted block, whose outline is o
pub record CuttingRow (block o : List ℤ) (i s : ℕ) : Type 0 where
  pub accepted : Block block
  pub outline : Outline block o
  pub row : UpTo 32 i
  pub shape : Boxed block s

-- the area's points are those of row i's ranges at which every room rule holds for shape s
pub record CutBox (block : List ℤ) (t : List ℤ) (i s : ℕ) (a : Area) : Type 0 where
  pub is : (p : List ℤ) → in_area (axes block) a p ≡ (in_ranges block t i p && rooms_hold block i s p)
  pub small : Small a
