-- What counting the cells of a room leans on, and what it is for a brick of a grid to be a box in the room. Assumes nothing.
use Rattle.std.specs.Prelude.{◌≡◌, Bool, true, false, ◌||◌, List, ℕ, ◌≤◌, ◌<◌, get_or, ℤ, pos, ◌+ℤ◌}
use Rattle.sheet.specs.Layout.{dims, size, room_low, names_row, of_row}
use Rattle.sheet.specs.Placement.{fixed, good, box_start}
use Rattle.sheet.specs.Fill.{is_fill_rule, room_width, room_cells}
use Rattle.sheet.specs.Accepted.{Block, Table}
use Rattle.words.specs.declared.Place.{Place}
use Rattle.words.specs.Places.{BoxPlace, RulePlace, RowPlace}
use Rattle.grid.specs.declared.Brick.{Brick}
use Rattle.grid.specs.Grid.{cells_most, at}

-- rule r of an accepted sheet is of kind 2 and names every dimension
pub record FillRoom (block : List ℤ) (r : Place) : Type 0 where
  pub accepted : Block block
  pub rule : RulePlace block r
  pub is_fill : is_fill_rule block r.number ≡ true

-- rule r's room is n cells wide in dimension d; the numbers are its widths
abbrev pub IsWidth : List ℤ → (r d : ℕ) → ℕ → Type 0
IsWidth block r d n = n ≡ room_width block r d

abbrev pub IsWidths : List ℤ → ℕ → List ℕ → Type 0
IsWidths block r widths = (d : ℕ) → d < dims block → IsWidth block r d (at widths d)

-- a good placement, and rule r, whose room's cells are not too many
pub record Counting (block t : List ℤ) (r : Place) : Type 0 where
  pub room : FillRoom block r
  pub table : Table block t
  pub all_fixed : fixed block t ≡ true
  pub all_good : good block t ≡ true
  pub some_cells : 1 ≤ room_cells block r.number
  pub few_cells : room_cells block r.number ≤ cells_most

-- row i is one of the rule's
pub record Named (block t : List ℤ) (r i : Place) : Type 0 where
  pub counting : Counting block t r
  pub row : RowPlace block t i
  pub named : names_row block r.number i.number ≡ true

-- and b one of its boxes
pub record NamedBox (block t : List ℤ) (r i b : Place) : Type 0 where
  pub of : Named block t r i
  pub box : BoxPlace block b
  pub is : of_row block t i.number b.number ≡ true

-- box b of row i starts at place n of dimension d, counted from the low corner of rule r's room
abbrev pub IsPlace : List ℤ → List ℤ → (r i b d : ℕ) → ℕ → Type 0
IsPlace block t r i b d n = room_low block r d +ℤ pos n ≡ box_start block t i b d

-- box b takes n places of dimension d
abbrev pub IsSize : List ℤ → (b d : ℕ) → ℕ → Type 0
IsSize block b d n = pos n ≡ size block b d

-- the brick is box b of row i
pub record IsBrick (block t : List ℤ) (r i b : ℕ) (x : Brick) : Type 0 where
  pub from : (d : ℕ) → d < dims block → IsPlace block t r i b d (at x.from d)
  pub size : (d : ℕ) → d < dims block → IsSize block b d (at x.size d)

-- of the first n cells those are marked that were, and those that pass f
pub record Adds (n : ℕ) (f : ℕ → Bool) (old new : List Bool) : Type 0 where
  pub marks : (m : ℕ) → m < n → get_or new m false ≡ (get_or old m false || f m)
