-- Rows that one row can forbid nothing: they need not be narrowed again when it moves. Assumes nothing.
use Rattle.std.specs.Prelude.{◌≡◌, true, false, List, ℕ, ℤ}
use Rattle.integers.specs.Below.{UpTo}
use Rattle.sheet.specs.Layout.{has_shape}
use Rattle.sheet.specs.Allowed.{in_ranges, shapes_forbid, set_forbids}
use Rattle.sheet.specs.Accepted.{Boxed, Block, Table}
use Rattle.words.specs.declared.Place.{Place}
use Rattle.words.specs.Places.{RulePlace, RowPlace}
use Rattle.outline.specs.Outline.{Outline}

module _ (block t : List ℤ) where
  -- row j forbids row i no point of its ranges by rule r
  pub record HarmlessBy (r j i : ℕ) : Type 0 where
    pub spares : (s : ℕ) (p : List ℤ) → has_shape block t i s ≡ true → in_ranges block t i p ≡ true → set_forbids block t r p i s j ≡ false

  -- shape u of row j forbids row i with shape s no point of its ranges by rule r
  abbrev pub ShapeHarmless : ℕ → ℕ → ℕ → ℕ → ℕ → Type 0
  ShapeHarmless r j u i s = (p : List ℤ) → has_shape block t i s ≡ true → in_ranges block t i p ≡ true → shapes_forbid block t r p i s j u ≡ false

  -- a rule and two rows of an accepted sheet, whose outline is o
  pub record Faces (o : List ℤ) (r j i : Place) : Type 0 where
    pub accepted : Block block
    pub table : Table block t
    pub outline : Outline block o
    pub rule : RulePlace block r
    pub other : RowPlace block t j
    pub row : RowPlace block t i

  -- a rule and two rows, with a shape of the other row and a shape number
  pub record ShapeFaces (o : List ℤ) (r j : Place) (u : ℕ) (i : Place) (s : ℕ) : Type 0 where
    pub rows_of : Faces o r j i
    pub shape : Boxed block u
    pub number : UpTo 32 s
