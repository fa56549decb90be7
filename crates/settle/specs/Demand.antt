-- MISSION DEMAND 3, in the mission's order of words, of a finding and the table left in place of a given one; and what `settle::settle`
-- promises of them. `Settled` and `Inside` are the mission's 'settled' and 'lies inside' (crates/sheet/specs/Settle.antt).
-- proofs/Demand.antt shows that on every accepted sheet the promise is demand 3. Assumes nothing.
use Rattle.std.specs.Prelude.{◌≡◌, ◌↔◌, Result, Ok, true, false, Bool, List, ℤ}
use Rattle.sheet.specs.Refusal.{refusal}
use Rattle.sheet.specs.Settle.{Settled, Inside, settle_of}
use Rattle.sheet.specs.Answer.{answer, is_found, table_after}
use Rattle.sheet.specs.declared.Refusal.{Refusal}

module _ (block : List ℤ) (given : List ℤ) where
  -- no settled table lies inside the given one
  abbrev pub NoneInside : Type 0
  NoneInside = (u : List ℤ) → Settled block u → Inside block u given → ⊥

  -- a settled table that lies inside the given one, and every settled table inside the given one lies inside it
  pub record Left (left : List ℤ) : Type 0 where
    pub settled : Settled block left
    pub inside : Inside block left given
    pub holds : (u : List ℤ) → Settled block u → Inside block u given → Inside block u left

  -- 'settled' is `Ok true`, 'no layout' is `Ok false`
  pub record Demand3 (finding : Result Bool Refusal) (left : List ℤ) : Type 0 where
    -- 'no layout' exactly when no settled table lies inside the given one, which then stays as it was
    pub no_layout : (finding ≡ Ok false) ↔ NoneInside
    pub unchanged : finding ≡ Ok false → left ≡ given
    -- in every other case 'settled', and that table is left
    pub otherwise : (finding ≡ Ok false → ⊥) → (finding ≡ Ok true) × Left left

  -- the promise, on any words: the first refusal that applies, or what the definition of settling finds
  abbrev pub Promise : Result Bool Refusal → List ℤ → Type 0
  Promise finding left =
      (finding ≡ answer (refusal block given) (is_found (settle_of block given)))
      × (left ≡ table_after (refusal block given) given (settle_of block given))
