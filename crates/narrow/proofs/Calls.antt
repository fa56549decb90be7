-- A call that is given a row: what its checks leave (`asked`), what narrowing leans on (`on-row`), and the answer (`answered-by`), or the
-- refusal, which leaves the table as it was (`refused-by`). Assumes nothing.
use mathlib.Core.Path.{◌≡◌, refl, sym, ap, ◌∙◌}
use mathlib.Core.Bool.{Bool}
use mathlib.Core.List.{List}
use mathlib.Core.Option.{Option}
use Prim.Native.Nat.{ℕ, zero, suc, ◌<◌}
use native.Mathlib.Omega.{arith}
use lib.IntN.{ℤ}
use mir.Syntax.{w64}
use mir.Val.{SFits, to_z, of_z}
use mir.Facts.{to_z-of_z}
use Rattle.std.specs.Prelude.{Result, Ok, Err, is_err}
use Rattle.integers.specs.Integer.{nat}
use Rattle.integers.specs.Below.{value_or}
use Rattle.sheet.specs.declared.Refusal.{Refusal}
use Rattle.sheet.specs.Narrow.{narrow_of}
use Rattle.sheet.specs.Refusal.{refusal, refusal_row}
use Rattle.sheet.specs.Answer.{answer, is_found, table_after}
use Rattle.sheet.proofs.Accepted.{accepted-rows, accepted-block, accepted-table}
use Rattle.sheet.proofs.Answer.{answered, passed, refused, is_refused}
use Rattle.words.specs.declared.Place.{Place}
use Rattle.words.specs.Places.{RowPlace}
use Rattle.accept.proofs.Numbers.{RowNumber, row_number, row-accepted}
use Rattle.outline.specs.Outline.{OnRow, Outline}

pub record RowAsked (block t : List ℤ) (row : ℤ) : Type 0 where
  pub none : refusal_row block t row ≡ 0
  pub accepted : refusal block t ≡ 0
  pub number : RowNumber block t row

-- the checks have passed, of the word as code has it
pub asked : (block t : List ℤ) {row : ℤ} → SFits w64 row → Ok (tt {0}) ≡ answer (refusal_row block t (to_z w64 (of_z w64 row))) (tt {0})
    → RowAsked block t row
asked block t {row} r a =
    let none = passed (refusal_row block t row) _ (simp (to_z-of_z r) at a) refl in
    let w = row-accepted block t row none in
    record { none = none; accepted = w.0; number = row_number block t row (accepted-rows block t w.0) w.1 }

-- a check's refusal is the answer
stays : (g : ℕ) (t : List ℤ) (o : Option (List ℤ)) → 0 < g → t ≡ table_after g t o
unfolding table_after
stays zero t o h = absurd (omega arith)
stays (suc g) t o h = refl

pub refused-by : {B : Type 0} (g : ℕ) (y : B) (t : List ℤ) (o : Option (List ℤ)) {q : Result (Unit {0}) Refusal} {z : Result B Refusal} {r : Refusal}
    → q ≡ answer g (tt {0}) → q ≡ Err r → z ≡ Err r → (z ≡ answer g y) × (t ≡ table_after g t o)
refused-by g y t o a e f = (refused _ _ _ a e f, stays g t o (is_refused _ _ a (ap is_err e)))

module _ {block t : List ℤ} {row : ℤ} (a : RowAsked block t row) where
  -- the row at place i, with the outline o that was drawn
  pub on-row : {o : List ℤ} {i : Place} → Outline block o → RowPlace block t i → OnRow block t o i
  on-row o i = record { accepted = accepted-block block t a.accepted; table = accepted-table block t a.accepted; outline = o; row = i }

  -- what is found is the answer
  pub answered-by : {i : ℕ} {b : Bool} {u : List ℤ} → i ≡ nat row → b ≡ is_found (narrow_of block t i) → u ≡ value_or t (narrow_of block t i)
      → (Ok b ≡ answer (refusal_row block t row) (is_found (narrow_of block t (nat row))))
      × (u ≡ table_after (refusal_row block t row) t (narrow_of block t (nat row)))
  unfolding table_after
  answered-by i e f = (
    ap Ok (e ∙ ap (λ (n : ℕ). is_found (narrow_of block t n)) i) ∙ sym (answered _ a.none),
    f ∙ ap (λ (n : ℕ). value_or t (narrow_of block t n)) i
        ∙ ap (λ (g : ℕ). table_after g t (narrow_of block t (nat row))) (sym a.none),
  )
