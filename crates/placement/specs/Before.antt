-- Judging a fixed row against the rows before it: what the code leans on, and what it promises. Assumes nothing.
use Rattle.std.specs.Prelude.{◌≡◌, Bool, true, false, ◌&&◌, List, ℕ, ◌-◌, ◌≤◌, ◌<◌, ℤ}
use Rattle.integers.specs.Below.{any_below, any_up_to}
use Rattle.integers.specs.Words.{word}
use Rattle.sheet.specs.Layout.{axes, rules, is_non_overlap, names_row, low, has_only}
use Rattle.sheet.specs.Allowed.{rooms_hold, in_ranges, set_forbids}
use Rattle.sheet.specs.Accepted.{Boxed}
use Rattle.words.specs.declared.Place.{Place}
use Rattle.words.specs.Places.{RowPlace}
use Rattle.points.specs.Area.{InField}
use Rattle.placement.specs.Rows.{FixedSheet, row_good}

module _ (block t : List ℤ) where
  -- rule r names row j, which forbids p to row i with shape s
  unfoldable pub named_forbids : ℕ → ℕ → ℕ → List ℤ → ℕ → Bool
  named_forbids r i s p j = names_row block r j && set_forbids block t r p i s j

  -- some row before i does
  unfoldable pub before_forbids : ℕ → ℕ → ℕ → List ℤ → Bool
  before_forbids r i s p = any_up_to (i - 1) (named_forbids r i s p)

  -- and rule r is of kind 1 and names row i
  unfoldable pub rule_forbids_before : ℕ → ℕ → List ℤ → ℕ → Bool
  rule_forbids_before i s p r = is_non_overlap block r && names_row block r i && before_forbids r i s p

  unfoldable pub forbidden_before : ℕ → ℕ → List ℤ → Bool
  forbidden_before i s p = any_below (rules block) (rule_forbids_before i s p)

  -- s is the one shape of row i
  pub record SoleShape (i s : ℕ) : Type 0 where
    pub from : 1 ≤ s
    pub upto : s ≤ 32
    pub only : has_only block t i s ≡ true

  -- a row of a fixed placement, a shape of the sheet, and a point near enough
  pub record Judging (o : List ℤ) (i : Place) (s : ℕ) (p : List ℤ) : Type 0 where
    pub sheet : FixedSheet block t o
    pub row : RowPlace block t i
    pub shape : Boxed block s
    pub near : InField (axes block) p

  -- row i with its shape at its point is in its ranges and rooms, and no row before it forbids that
  pub record Clear (i : ℕ) : Type 0 where
    pub shape : ℕ
    pub point : List ℤ
    pub sole : SoleShape i shape
    pub at : (d : ℕ) → d < axes block → word point d ≡ low block t i d
    pub ranges : in_ranges block t i point ≡ true
    pub rooms : rooms_hold block i shape point ≡ true
    pub free : forbidden_before i shape point ≡ false

  -- what the answer r says of row i. A row that only later rows forbid is clear: it is these that are bad.
  pub record Judged (i : ℕ) (r : Bool) : Type 0 where
    pub clear : r ≡ true → Clear i
    pub bad : r ≡ false → row_good block t i ≡ false
