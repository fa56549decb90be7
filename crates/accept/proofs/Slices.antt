-- Where the slice of a row stands: at the row's words, whole, when the row is accepted; at the start of the table and empty when refused;
-- in the table either way (`slice-ends`, `slice-part`). Assumes nothing.
use mathlib.Core.Path.{◌≡◌, refl, ap, ◌∙◌}
use mathlib.Core.Logic.{⊎_elim}
use mathlib.Core.List.{List, []}
use Prim.Native.Nat.{ℕ, zero, suc, ◌+◌, ◌≤◌, ◌<◌}
use native.Mathlib.Nat.{not-suc-le-zero}
use native.Mathlib.Omega.{arith}
use lib.IntN.{ℤ}
use lib.ListN.{length, take, drop, length-drop}
use lib.Seq.{length-take-le}
use Rattle.integers.specs.Integer.{nat}
use Rattle.integers.proofs.Below.{below_or}
use Rattle.sheet.specs.Layout.{row_len, row_at}
use Rattle.sheet.specs.Refusal.{refusal_row, slice_unless, row_slice, start_unless, row_start}
use Rattle.sheet.proofs.Accepted.{accepted-rows}
use Rattle.words.proofs.Ends.{row-at-ends}
use Rattle.accept.proofs.Numbers.{row_number, row-accepted}

module _ (block : List ℤ) (t : List ℤ) (row : ℤ) where
  -- ---- refused
  none-unless : {g : ℕ} → 0 < g → (start_unless block t g (nat row) ≡ 0) × (slice_unless block t g (nat row) ≡ [])
  unfolding start_unless slice_unless
  none-unless {g = zero} l = absurd (not-suc-le-zero l)
  none-unless {g = suc n} l = (refl, refl)

  pub slice-none : 0 < refusal_row block t row → (row_start block t row ≡ 0) × (row_slice block t row ≡ [])
  unfolding row_start row_slice
  slice-none l = none-unless l

  -- ---- accepted
  module _ (e : refusal_row block t row ≡ 0) where
    pub slice-start : row_start block t row ≡ row_at block (nat row)
    unfolding row_start start_unless
    slice-start = rw e

    slice-words : row_slice block t row ≡ take (row_len block) (drop (row_at block (nat row)) t)
    unfolding row_slice slice_unless
    slice-words = rw e

    row_inside : row_at block (nat row) + row_len block ≤ length t
    unfolding row_len
    row_inside =
        let w = row-accepted block t row e in
        let h = accepted-rows block t w.0 in
        let n = row_number block t row h w.1 in
        row-at-ends h n.from n.upto

    pub slice-length : length (row_slice block t row) ≡ row_len block
    slice-length = ap length slice-words ∙ length-take-le (row_len block) _ (omega (arith, row_inside, length-drop (row_at block (nat row)) t))

  -- ---- either way
  pub slice-ends : row_start block t row + length (row_slice block t row) ≤ length t
  slice-ends = ⊎_elim
      (λ l. let w = slice-none l in omega (arith, ap length w.1))
      (λ l. let e : refusal_row block t row ≡ 0 = omega arith in omega (arith, slice-start e, slice-length e, row_inside e))
      (below_or 0 (refusal_row block t row))

  pub slice-part : row_slice block t row ≡ take (length (row_slice block t row)) (drop (row_start block t row) t)
  slice-part = ⊎_elim
      (λ l. let w = slice-none l in rw w.1)
      (λ l. let e : refusal_row block t row ≡ 0 = omega arith in rw (slice-length e, slice-start e) (slice-words e))
      (below_or 0 (refusal_row block t row))
