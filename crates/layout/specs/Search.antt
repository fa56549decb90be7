-- What the search for a placement leans on, and what it finds. Assumes nothing.
use Rattle.std.specs.Prelude.{◌≡◌, Bool, true, false, List, ◌≤◌, ℤ}
use Rattle.std.proofs.Math.Option.{none, some}
use Rattle.sheet.specs.Layout.{layout_rows_most, rows}
use Rattle.sheet.specs.Settle.{settle_of}
use Rattle.sheet.specs.Refusal.{refusal}
use Rattle.sheet.specs.FirstLayout.{Places}
use Rattle.splits.specs.declared.Split.{Split}
use Rattle.splits.specs.Splits.{upto_value}

module _ (block : List ℤ) where
  -- a sheet that is accepted and has few rows
  pub record Small (t : List ℤ) : Type 0 where
    pub accepted : refusal block t ≡ 0
    pub few : rows block t ≤ layout_rows_most

  -- whether settling left a table in the place of t, and which
  pub record SettledTo (t : List ℤ) (r : Bool) (v : List ℤ) : Type 0 where
    pub yes : r ≡ true → settle_of block t ≡ some v
    pub no : r ≡ false → settle_of block t ≡ none

  -- no good placement lies inside the table
  abbrev pub NoPlacement : List ℤ → Type 0
  NoPlacement t = (p : List ℤ) → Places block t p → ⊥

  -- whether a good placement lies inside t, and one of them
  pub record Found (t : List ℤ) (r : Bool) (v : List ℤ) : Type 0 where
    pub yes : r ≡ true → Places block t v
    pub no : r ≡ false → NoPlacement t

  -- whether one lies inside that has a value up to the split, and one of them; the table as it was where there is none
  pub record FoundUpto (t : List ℤ) (s : Split) (r : Bool) (v : List ℤ) : Type 0 where
    pub yes : r ≡ true → Places block t v
    pub no : r ≡ false → NoPlacement (upto_value block t s.row s.column s.at)
    pub same : r ≡ false → v ≡ t
