-- What a branch on a call's answer says of the test that the answer is, and what a turn of a loop adds. Assumes nothing.
use mathlib.Core.Path.{◌≡◌, sym, ap, ◌∙◌}
use mathlib.Core.Bool.{Bool, true, false, not}
use Prim.Native.Nat.{ℕ, suc, ◌+◌, ◌<◌}
use native.Mathlib.Numerals.{add-one}
use Rattle.integers.specs.Below.{all_below, all_up_to}
use Rattle.integers.proofs.Booleans.{not-true, not-false, true-and}
use Rattle.integers.proofs.Below.{all_more, all-false}

-- in the arm of `if !r`, and past it
pub fails_by : {r x : Bool} → r ≡ x → not r ≡ true → x ≡ false
fails_by e h = sym e ∙ not-true h

pub passes-by : {r x : Bool} → r ≡ x → not r ≡ false → x ≡ true
passes-by e h = sym e ∙ not-false h

-- each of the numbers below n passes, and n does
pub all-next : {n : ℕ} (f : ℕ → Bool) → all_below n f ≡ true → f n ≡ true → all_below (n + 1) f ≡ true
all-next {n} f e h = all_more n f ∙ true-and e h

-- and of the numbers 1 to n
pub upto_next : (n : ℕ) (f : ℕ → Bool) → all_up_to n f ≡ true → f (n + 1) ≡ true → all_up_to (n + 1) f ≡ true
upto_next n f e h = all-next (λ m. f (suc m)) e (ap f (sym (add-one n)) ∙ h)

pub upto_false : {n i : ℕ} (f : ℕ → Bool) → i < n → f (i + 1) ≡ false → all_up_to n f ≡ false
upto_false {i} f h e = all-false (λ m. f (suc m)) i h (ap f (sym (add-one i)) ∙ e)

-- the loop has reached its end
pub all_done : {m n : ℕ} (f : ℕ → Bool) → all_below m f ≡ true → m ≡ n → all_below n f ≡ true
all_done f e q = ap (λ (k : ℕ). all_below k f) (sym q) ∙ e
