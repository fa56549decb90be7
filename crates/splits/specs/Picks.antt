-- How a number that can be split is picked, row by row and column by column. Assumes nothing.
use Rattle.std.specs.Prelude.{◌≡◌, true, List, ℕ, ◌≤◌, ◌<◌, ℤ, Option, MatchOption}
use Rattle.sheet.specs.Layout.{axes}
use Rattle.sheet.specs.Placement.{row_fixed}
use Rattle.sheet.specs.Accepted.{Table}
use Rattle.sheet.specs.Cuts.{HasNumber, Single}
use Rattle.words.specs.declared.Place.{Place}
use Rattle.words.specs.Places.{RowPlace}
use Rattle.splits.specs.declared.pick.Gain.{Gain}
use Rattle.splits.specs.Splits.{Several}

-- what a row weighs: one more than the times that it failed
pub record Weight (w : ℕ) : Type 0 where
  pub from : 1 ≤ w
  pub upto : w ≤ 4294967296

module _ (block : List ℤ) (t : List ℤ) where
  -- a row of a table whose words may be leaned on
  pub record OnRow (i : Place) : Type 0 where
    pub table : Table block t
    pub row : RowPlace block t i

  -- how far the values of number c of row i reach past the least
  pub record Spread (i c r : ℕ) : Type 0 where
    pub few : r ≤ 4194304
    pub none : r ≡ 0 → Single block t i c
    pub some : 0 < r → Several block t i c

  -- the first column of row i that can be split; none where the row is fixed
  abbrev pub OpenColumn : ℕ → Option ℕ → Type 0
  OpenColumn i r = MatchOption r (row_fixed block t i ≡ true) (λ c. (c ≤ axes block) × Several block t i c)

  -- the rows before row m are fixed, and the columns before column c of row m have one value each
  pub record Passed (m c : ℕ) : Type 0 where
    pub rows : (i : ℕ) → 1 ≤ i → i < m → row_fixed block t i ≡ true
    pub columns : (e : ℕ) → e < c → Single block t m e

  -- number c of row i can be split
  pub record CanSplit (i c : ℕ) : Type 0 where
    pub has : HasNumber block t i c
    pub some : Several block t i c

  -- the greatest gain of the rows before row m and of the columns before column c of row m; none where nothing is gained there
  abbrev pub Gains : ℕ → ℕ → Option Gain → Type 0
  Gains m c r = MatchOption r (Passed m c) (λ g. CanSplit g.row g.column)
