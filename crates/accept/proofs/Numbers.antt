-- The row and the shape that a call asks about, as numbers: a row that is there has the number of one (`RowNumber`), a word that is no
-- shape's number is in no set, and a row's set can be read. Assumes nothing.
use mathlib.Core.Path.{◌≡◌}
use mathlib.Core.Bool.{true, false}
use mathlib.Core.List.{List}
use Prim.Native.Nat.{◌-◌, ◌^◌, ◌≤◌}
use native.Mathlib.Omega.{arith}
use lib.IntN.{ℤ, pos}
use lib.Signed.{◌≤ℤ◌}
use Rattle.integers.specs.Integer.{nat, within}
use Rattle.integers.specs.Below.{UpTo}
use Rattle.integers.specs.Bits.{holds}
use Rattle.integers.proofs.Booleans.{clash, fails, not-false}
use Rattle.integers.proofs.Ints.{ints, disjoint}
use Rattle.integers.proofs.Ranges.{nat-from}
use Rattle.integers.proofs.Sets.{member-ge-1, small-set}
use Rattle.sheet.specs.Layout.{rows}
use Rattle.sheet.specs.Refusal.{no_such_row, refusal, refusal_row}
use Rattle.sheet.specs.Accepted.{Count, Rows}
use Rattle.sheet.proofs.Accepted.{counted, else-zero, when-zero}

-- the word is the number of a row
pub record RowNumber (block : List ℤ) (t : List ℤ) (row : ℤ) : Type 0 where
  pub count : Count row
  pub from : 1 ≤ nat row
  pub upto : nat row ≤ rows block t

-- ---- the row
pub row_upto : {block : List ℤ} {t : List ℤ} {row : ℤ} → RowNumber block t row → UpTo (rows block t) (nat row)
row_upto n = record { from = n.from; upto = n.upto }

module _ (block : List ℤ) (t : List ℤ) (row : ℤ) where
  -- check 9 has passed
  pub row_number : Rows block t → no_such_row block t row ≡ false → RowNumber block t row
  unfolding no_such_row
  row_number h e =
      let w = nat-from row (not-false e) in
      record { count = counted 1 (rows block t) (omega (arith, h.few_rows)) (not-false e); from = w.0; upto = w.1 }

  -- the checks of a call that asks about a row have passed
  pub row-accepted : refusal_row block t row ≡ 0 → (refusal block t ≡ 0) × (no_such_row block t row ≡ false)
  unfolding refusal_row
  row-accepted e = let w = else-zero (refusal block t) _ e in (w.0, when-zero 8 (no_such_row block t row) w.1)

-- ---- the shape
pub no-shape : {set : ℤ} (shape : ℤ) → set ≤ℤ pos (2 ^ 32 - 1) → within (pos 1) (pos 32) shape ≡ false → holds set (nat shape) ≡ false
no-shape {set} shape h e =
    fails (λ t. let l = member-ge-1 set t in let u = small-set {n = 32} h t in
    let w : within (pos 1) (pos 32) shape ≡ true = omega (ints, disjoint shape) in clash w e)
