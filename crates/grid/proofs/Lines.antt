-- One more dimension: the number of a brick's lines, and what is known of a line's first cell when the dimensions before d are done (`Upto`).
-- Assumes nothing.
use mathlib.Core.Path.{◌≡◌, refl, sym, ap, ◌∙◌}
use mathlib.Core.List.{List}
use Prim.Native.Nat.{ℕ, zero, suc, ◌+◌, ◌*◌, ◌/◌, ◌%◌, ◌≤◌}
use native.Mathlib.Nat.{not-suc-le-zero, div-div-eq-div-mul}
use native.Mathlib.Omega.{arith}
use Rattle.integers.specs.Below.{sum_below, product_below}
use Rattle.integers.specs.Digits.{digit, number_of}
use Rattle.integers.proofs.Digits.{sum_more, product-more}
use Rattle.grid.specs.Grid.{at, line_size, lines, line_start}

size-at : (size : List ℕ) {d : ℕ} → 1 ≤ d → line_size size d ≡ at size d
unfolding line_size
size-at size {d = zero} l = absurd (not-suc-le-zero l)
size-at size {d = suc d} l = refl

pub lines-one : (size : List ℕ) → lines 1 size ≡ 1
unfolding product_below line_size
lines-one size = refl

pub lines_more : (size : List ℕ) {d : ℕ} → 1 ≤ d → lines (d + 1) size ≡ lines d size * at size d
lines_more size {d} l = product-more d (line_size size) ∙ ap (λ (s : ℕ). lines d size * s) (size-at size l)

-- the first cell of line j in the dimensions before d, the step of dimension d, and the number of the line without the digits before d
pub record Upto (widths from size : List ℕ) (j d start step rest : ℕ) : Type 0 where
  pub start_is : start ≡ line_start d widths from size j
  pub step_is : step ≡ product_below d (at widths)
  pub rest_is : rest ≡ j / lines d size

module _ (widths from size : List ℕ) (j : ℕ) where
  start-more : {d : ℕ} → 1 ≤ d
      → line_start (d + 1) widths from size j
      ≡ line_start d widths from size j + (at from d + j / lines d size % at size d) * product_below d (at widths)
  unfolding line_start number_of digit
  start-more {d} l =
      sum_more d (λ e. (at from e + digit (line_size size) j e) * product_below e (at widths))
      ∙ ap (λ (s : ℕ). line_start d widths from size j + (at from d + j / lines d size % s) * product_below d (at widths)) (size-at size l)

  pub upto-one : Upto widths from size j 1 (at from 0) (at widths 0) j
  unfolding line_start number_of digit sum_below product_below line_size
  upto-one = record { start_is = omega arith; step_is = omega arith; rest_is = omega arith }

  -- e and q are the next digit and what is left, as the code holds them
  pub upto-more : {d start step rest e q : ℕ} → 1 ≤ d → Upto widths from size j d start step rest → q ≡ rest / at size d → e ≡ rest % at size d
      → Upto widths from size j (d + 1) (start + (at from d + e) * step) (step * at widths d) q
  upto-more {d} l u quotient digit-is = record {
    start_is = rw (digit-is, u.start_is, u.step_is, u.rest_is) (sym (start-more l));
    step_is = rw u.step_is (sym (product-more d (at widths)));
    rest_is = quotient ∙ rw u.rest_is (div-div-eq-div-mul j (lines d size) (at size d) ∙ ap (λ (n : ℕ). j / n) (sym (lines_more size l)));
  }
