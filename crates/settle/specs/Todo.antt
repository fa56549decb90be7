-- Settling by a run of tests that says which rows are to be narrowed: a test for each row, true while the row may still move.
-- Assumes nothing.
use Rattle.std.specs.Prelude.{◌≡◌, Option, MatchOption, Bool, true, false, List, ℕ, suc, ◌≤◌, ◌<◌, ℤ, get_or}
use Rattle.std.proofs.Math.Option.{none, some}
use Rattle.sheet.specs.Layout.{is_non_overlap, names_row, rows}
use Rattle.sheet.specs.Settle.{settle_of}
use Rattle.sheet.specs.Answer.{is_found, table_after}
use Rattle.words.specs.declared.Place.{Place}
use Rattle.outline.specs.Outline.{OnRow}
use Rattle.nearby.specs.Due.{HarmlessBy}

-- row m + 1 is to be narrowed
abbrev pub todo : List Bool → ℕ → Bool
todo due m = get_or due m false

-- r is the first index from a on and below b of a row that is to be narrowed, or there is none
abbrev pub FirstDue : List Bool → ℕ → ℕ → Option ℕ → Type 0
FirstDue due a b r =
    MatchOption r ((m : ℕ) → a ≤ m → m < b → todo due m ≡ false)
    (λ i. (a ≤ i) × (i < b) × (todo due i ≡ true) × ((m : ℕ) → a ≤ m → m < i → todo due m ≡ false))

-- r is the index of one of the first n rows that is to be narrowed, or there is none
abbrev pub Next : List Bool → ℕ → Option ℕ → Type 0
Next due n r = MatchOption r ((m : ℕ) → m < n → todo due m ≡ false) (λ i. (i < n) × (todo due i ≡ true))

-- more is due with further rows set: a row that is not to be narrowed was not to be before, and is spared
pub record Touched (n : ℕ) (due : List Bool) (spared : ℕ → Type 0) (more : List Bool) : Type 0 where
  pub left : (m : ℕ) → m < n → todo more m ≡ false → (todo due m ≡ false) × spared m

module _ (block : List ℤ) where
  -- row i, which moved, and the number of rows
  pub record Touching (t o : List ℤ) (i : Place) (n : ℕ) : Type 0 where
    pub on : OnRow block t o i
    pub count : n ≡ rows block t

  -- if rule r keeps rows i and m + 1 apart, row i forbids row m + 1 no point of its ranges by it
  abbrev pub Spared : List ℤ → ℕ → ℕ → ℕ → Type 0
  Spared t i r m = is_non_overlap block r ≡ true → names_row block r i ≡ true → names_row block r (suc m) ≡ true → HarmlessBy block t r i (suc m)

  -- what the loop answers on t, and leaves: true, and the table that settling finds; false where it finds none
  pub record FoundBy (t : List ℤ) (r : Bool) (v : List ℤ) : Type 0 where
    pub yes : r ≡ true → settle_of block t ≡ some v
    pub no : r ≡ false → settle_of block t ≡ none

  -- whether a settled table lies inside a table t that is accepted, and what is left in its place
  abbrev pub Answered : List ℤ → Bool → List ℤ → Type 0
  Answered t found left = (found ≡ is_found (settle_of block t)) × (left ≡ table_after 0 t (settle_of block t))
