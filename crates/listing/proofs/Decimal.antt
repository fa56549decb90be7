-- Decimal digits: one digit stored before those that stand there, as `decimal` recurses; and a word by its sign and its magnitude.
-- Assumes nothing.
use mathlib.Core.Path.{◌≡◌, refl, sym, ap, ◌∙◌}
use mathlib.Core.List.{List, [], ◌∷◌, ◌++◌}
use Prim.Native.Nat.{ℕ, suc, ◌+◌, ◌-◌, ◌/◌, ◌%◌, ◌≤◌, ◌<◌}
use native.Mathlib.Omega.{arith}
use native.Mathlib.Numerals.{add-one}
use borrow.Author.Tests.{lt-ltb, le-ltb}
use lib.IntN.{ℤ, pos, negsuc, nat_abs}
use lib.Signed.{◌<ℤ◌, ◌≤ℤ◌}
use lib.ListN.{length, drop, set, length-set}
use lib.Seq.{drop-cons, drop-set-lt, get_or-set_same}
use Rattle.integers.proofs.Ints.{ints}
use Rattle.sheet.specs.Text.{decimal, shown}

pub decimal-none : (n : ℕ) (bs : List ℕ) → decimal 0 n bs ≡ bs
unfolding decimal
decimal-none n bs = refl

pub decimal-last : (f n : ℕ) (bs : List ℕ) → n < 10 → decimal (suc f) n bs ≡ (48 + n) ∷ bs
unfolding decimal
decimal-last f n bs h = rw (lt-ltb n 10 h, decimal)

pub decimal-more : (f n : ℕ) (bs : List ℕ) → 10 ≤ n → decimal (suc f) n bs ≡ decimal f (n / 10) ((48 + n % 10) ∷ bs)
unfolding decimal
decimal-more f n bs h = rw (le-ltb n 10 h, decimal)

drop-stored : (l : List ℕ) (i d : ℕ) → i < length l → drop i (set l i d) ≡ d ∷ drop (i + 1) l
drop-stored l i d h =
    let k : i < length (set l i d) = rw length-set h in
    drop-cons (set l i d) i 0 k
    ∙ ap (λ (x : ℕ). x ∷ drop (suc i) (set l i d)) (get_or-set_same l i d 0 h)
    ∙ ap (λ (x : List ℕ). d ∷ x) (drop-set-lt (suc i) l i d (omega arith) ∙ ap (λ (j : ℕ). drop j l) (sym (add-one i)))

-- the digit of m before place i of a buffer
module _ (l : List ℕ) (i m : ℕ) (h : 0 < i) (g : i ≤ length l) where
  abbrev stored : List ℕ
  stored = set l (i - 1) (48 + m % 10)

  there : drop (i - 1) stored ≡ (48 + m % 10) ∷ drop i l
  there =
      let q : i - 1 + 1 ≡ i = omega arith in
      drop-stored l (i - 1) (48 + m % 10) (omega arith) ∙ ap (λ (j : ℕ). (48 + m % 10) ∷ drop j l) q

  fuel : suc (i - 1) ≡ i
  fuel = omega arith

  pub digit-last : m < 10 → drop (i - 1) stored ≡ decimal i m (drop i l)
  digit-last j =
      let q : m % 10 ≡ m = omega arith in
      there
      ∙ ap (λ (x : ℕ). (48 + x) ∷ drop i l) q
      ∙ sym (decimal-last (i - 1) m (drop i l) j)
      ∙ ap (λ (f : ℕ). decimal f m (drop i l)) fuel

  pub digit-more : 10 ≤ m → decimal (i - 1) (m / 10) (drop (i - 1) stored) ≡ decimal i m (drop i l)
  digit-more j =
      ap (decimal (i - 1) (m / 10)) there ∙ sym (decimal-more (i - 1) m (drop i l) j) ∙ ap (λ (f : ℕ). decimal f m (drop i l)) fuel

-- ---- a word by its sign

pub shown-natural : (n : ℕ) → shown (pos n) ≡ decimal 20 n []
unfolding shown
shown-natural n = refl

pub shown-below : (z : ℤ) → z <ℤ pos 0 → shown z ≡ (45 ∷ []) ++ shown (pos (nat_abs z))
unfolding shown
shown-below (pos n) h = absurd (omega ints)
shown-below (negsuc n) h = refl

pub shown-above : (z : ℤ) → pos 0 ≤ℤ z → shown z ≡ shown (pos (nat_abs z))
shown-above (pos n) h = refl
shown-above (negsuc n) h = absurd (omega ints)
