-- THE FIRST WHOLE LAYOUT (document 02, T-06), in the request's order of words, of a finding and the table left in place of a given one; and what
-- `layout::first_layout` promises of them. `Places` and `Precedes` are a good placement inside the table and the order of placements
-- (crates/sheet/specs/FirstLayout.antt). proofs/Promise.antt shows that on every sheet that is not refused the promise is the request's. Assumes
-- nothing.
use Rattle.std.specs.Prelude.{◌≡◌, ◌↔◌, Result, Ok, Bool, true, false, List, ℤ}
use Rattle.std.proofs.Math.Option.{none, some}
use Rattle.sheet.specs.Refusal.{refusal_layout}
use Rattle.sheet.specs.FirstLayout.{Places, Precedes, FirstLayout, first_layout_of}
use Rattle.sheet.specs.Answer.{answer, is_found, table_after}
use Rattle.sheet.specs.declared.Refusal.{Refusal}

module _ (block : List ℤ) (given : List ℤ) where
  -- a good placement inside the given table that none inside it precedes
  pub record Written (left : List ℤ) : Type 0 where
    pub places : Places block given left
    pub first : (p : List ℤ) → Places block given p → Precedes block p left → ⊥

  -- 'placed' is `Ok true`, 'none' is `Ok false`
  pub record Request (finding : Result Bool Refusal) (left : List ℤ) : Type 0 where
    -- 'none' exactly when no good placement lies inside the given table, which then stays as it was
    pub none_inside : (finding ≡ Ok false) ↔ ((p : List ℤ) → Places block given p → ⊥)
    pub unchanged : finding ≡ Ok false → left ≡ given
    -- in every other case the first is written over it
    pub otherwise : (finding ≡ Ok false → ⊥) → (finding ≡ Ok true) × Written left

  -- the promise, on any words: the first refusal that applies, or what the definition finds
  abbrev pub Promise : Result Bool Refusal → List ℤ → Type 0
  Promise finding left =
      (finding ≡ answer (refusal_layout block given) (is_found (first_layout_of block given)))
      × (left ≡ table_after (refusal_layout block given) given (first_layout_of block given))

  -- what is found in a table that is not refused, and what is left in its place
  pub record FirstBy (r : Bool) (left : List ℤ) : Type 0 where
    pub yes : r ≡ true → FirstLayout block given (some left)
    pub no : r ≡ false → FirstLayout block given none
    pub same : r ≡ false → left ≡ given
