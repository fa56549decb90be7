-- Sets as numbers: which numbers a set holds, the one number of a set, sets made of a test; and what the count of a set's
-- ones and its trailing zeros say of them. Assumes nothing.
use mathlib.Core.Path.{◌≡◌, refl, sym, ap, ap₂, ◌∙◌, subst}
use mathlib.Core.Logic.{◌⊎◌, inl, inr, ⊎_elim}
use mathlib.Core.Bool.{Bool, true, false, cond}
use Prim.Native.Nat.{ℕ, zero, suc, ◌+◌, ◌-◌, ◌^◌, ◌≤◌, ◌<◌}
use native.Mathlib.Nat.{not-suc-le-zero, add-zero, le_refl, le_antisymm}
use native.Mathlib.Omega.{arith}
use borrow.Author.Tests.{eqb-true, eqb-false}
use lib.Count.{ones, count_trailing_zeros}
use lib.Dec.{eqb}
use lib.IntN.{ℤ, pos}
use lib.Pow.{pow_pos, pow_mono}
use lib.Signed.{◌≤ℤ◌}
use Rattle.integers.specs.Integer.{nat}
use Rattle.integers.specs.Below.{any_up_to}
use Rattle.integers.specs.Bits.{bit_at, bit, holds, holds_only, set_of}
use Rattle.integers.proofs.Booleans.{clash, decide, fails, passes, both_ways}
use Rattle.integers.proofs.Ints.{ints, disjoint, eq_z-eq, eq-eq_z}
use Rattle.integers.proofs.Below.{below_or, last_or, some-upto, upto-some}
use Rattle.integers.proofs.Ranges.{le-nat, nat_le, pos-nat}
use Rattle.integers.proofs.Bits.{bit_at-past, bit_at-pos, bit-one, one_bit, same_bit, bit_past, bits-le, some-bit, place-high, place-low}
use Rattle.integers.proofs.Bits.{zero_bit, Only, power-only, only-power, only_one, one_only, one-lt, tz-bit, tz-below}

-- ---- the numbers of a set
pub none-zero : (z : ℤ) → holds z 0 ≡ false
unfolding holds
none-zero z = refl

pub member-ge-1 : (z : ℤ) {s : ℕ} → holds z s ≡ true → 1 ≤ s
member-ge-1 z {s = zero} e = clash e (none-zero z)
member-ge-1 z {s = suc m} e = omega arith

-- the code's bit i − 1
pub set-bit : (z : ℤ) (i : ℕ) → 1 ≤ i → bit z (i - 1) ≡ holds z i
unfolding holds
set-bit z zero h = absurd (not-suc-le-zero h)
set-bit z (suc m) h = let e : suc m - 1 ≡ m = omega arith in ap (bit z) e

-- a number's bits, as members
held_one : (z : ℤ) (m : ℕ) → holds z (suc m) ≡ true → bit_at (nat z) m ≡ 1
unfolding holds
held_one z m e = bit-one z m e

one-held : (z : ℤ) (m : ℕ) → bit_at (nat z) m ≡ 1 → holds z (suc m) ≡ true
unfolding holds
one-held z m e = one_bit z m e

-- a set that holds a number is at least 1, so that 0 and a negative number hold none; and the other way round
pub set-ge-1 : (z : ℤ) (s : ℕ) → holds z s ≡ true → pos 1 ≤ℤ z
set-ge-1 z zero e = clash e (none-zero z)
set-ge-1 z (suc m) e = omega (ints, disjoint z, bit_at-pos m (held_one z m e))

pub living-set : {z : ℤ} → pos 1 ≤ℤ z → (s : ℕ) × (holds z s ≡ true)
living-set {z} h = let w = some-bit (nat z) (le-nat h) in (suc w.0, one-held z w.0 w.1)

-- a number of n digits holds none above n; the greatest is the set of all from 1 to n
pub set_below : {z : ℤ} (n : ℕ) → z ≤ℤ pos (2 ^ n - 1) → nat z < 2 ^ n
set_below n h = omega (arith, nat_le h, pow_pos n)

pub full-le : {m n : ℕ} → m ≤ n → 2 ^ m - 1 ≤ 2 ^ n - 1
full-le h = omega (arith, pow_mono h)

pub small-set : {n s : ℕ} {z : ℤ} → z ≤ℤ pos (2 ^ n - 1) → holds z s ≡ true → s ≤ n
small-set {s = zero} h e = omega arith
small-set {n} {s = suc m} {z} h e =
    ⊎_elim (λ l. l) (λ l. absurd (omega (arith, sym (bit_at-past (set_below n h) l) ∙ held_one z m e))) (below_or m n)

-- fewer members, a smaller number; the same members, the same set
pub set-le : (a b : ℤ) → ((s : ℕ) → holds a s ≡ true → holds b s ≡ true) → nat a ≤ nat b
set-le a b h = bits-le (λ d e. held_one b d (h (suc d) (one-held a d e)))

pub set-ext : {a b : ℤ} → pos 0 ≤ℤ a → pos 0 ≤ℤ b → ((s : ℕ) → holds a s ≡ holds b s) → a ≡ b
set-ext {a} {b} p q h =
    let e : nat a ≡ nat b = le_antisymm (set-le a b (λ s t. sym (h s) ∙ t)) (set-le b a (λ s t. h s ∙ t)) in
    sym (pos-nat p) ∙ ap pos e ∙ pos-nat q

-- ---- the one number of a set
pub only-eq : (z : ℤ) (m : ℕ) → holds_only z (suc m) ≡ true → z ≡ pos (2 ^ m)
unfolding holds_only
only-eq z m e = eq_z-eq e

pub only-bit : (z : ℤ) (m : ℕ) → holds_only z (suc m) ≡ true → Only (nat z) m
only-bit z m e = subst (λ (n : ℕ). Only n m) (sym (ap nat (only-eq z m e))) (power-only m)

pub bit-only : (z : ℤ) (m : ℕ) → Only (nat z) m → holds_only z (suc m) ≡ true
unfolding holds_only
bit-only z m o = eq-eq_z (sym (pos-nat (omega (ints, set-ge-1 z (suc m) (one-held z m o.here)))) ∙ ap pos (only-power o))

pub only-held : (z : ℤ) (s : ℕ) → holds_only z s ≡ true → holds z s ≡ true
unfolding holds holds_only
only-held z zero e = e
only-held z (suc m) e = one_bit z m (only-bit z m e).here

pub same-only : (z : ℤ) {s t : ℕ} → holds_only z s ≡ true → holds z t ≡ true → t ≡ s
unfolding holds holds_only
same-only z {s = zero} e h = clash e refl
same-only z {s = suc m} {t = zero} e h = clash h refl
same-only z {s = suc m} {t = suc d} e h = ap suc ((only-bit z m e).sole d (bit-one z d h))

pub held-only : (z : ℤ) (s t : ℕ) → holds_only z s ≡ true → holds z t ≡ true → holds_only z t ≡ true
held-only z s t e h = subst (λ (x : ℕ). holds_only z x ≡ true) (sym (same-only z e h)) e

-- ---- the same by the set's ones and trailing zeros
pub only-shape : (k : ℕ) (z : ℤ) → nat z < 2 ^ k → ones (nat z) ≡ 1 → holds_only z (suc (count_trailing_zeros k (nat z))) ≡ true
only-shape k z h o = bit-only z (count_trailing_zeros k (nat z)) (one_only k h o)

pub no-only : (z : ℤ) → (ones (nat z) ≡ 1 → ⊥) → (s : ℕ) → holds_only z s ≡ false
unfolding holds_only
no-only z f zero = refl
no-only z f (suc m) = fails (λ e. f (only_one (only-bit z m e)))

pub one-only-held : (k : ℕ) (z : ℤ) → nat z < 2 ^ k → eqb (ones (nat z)) 1 ≡ any_up_to k (holds_only z)
one-only-held k z h = both_ways _ _ into out
  where
    into : eqb (ones (nat z)) 1 ≡ true → any_up_to k (holds_only z) ≡ true
    into e =
        let o = eqb-true (ones (nat z)) 1 e in
        upto-some (holds_only z) (suc (count_trailing_zeros k (nat z))) (omega arith) (one-lt k h o) (only-shape k z h o)

    out : any_up_to k (holds_only z) ≡ true → eqb (ones (nat z)) 1 ≡ true
    out e =
        let w = some-upto (holds_only z) e in
        passes (λ q. clash w.3 (no-only z (eqb-false (ones (nat z)) 1 q) w.0))

-- ---- the lowest number of a set stands where its trailing zeros end
pub lowest-held : (k : ℕ) {z : ℤ} → pos 1 ≤ℤ z → nat z < 2 ^ k → holds z (suc (count_trailing_zeros k (nat z))) ≡ true
lowest-held k {z} h l = one-held z (count_trailing_zeros k (nat z)) (tz-bit k l (le-nat h))

pub lowest-least : (k : ℕ) (z : ℤ) (s : ℕ) → holds z s ≡ true → suc (count_trailing_zeros k (nat z)) ≤ s
unfolding holds
lowest-least k z zero e = clash e refl
lowest-least k z (suc m) e =
    ⊎_elim (λ l. clash e (zero_bit z m (tz-below k (nat z) m l))) (λ l. omega (arith, l)) (below_or m (count_trailing_zeros k (nat z)))

-- ---- the set of the numbers 1 to n that pass a test
pub set_of-zero : (f : ℕ → Bool) → set_of 0 f ≡ 0
unfolding set_of
set_of-zero f = refl

-- the step, by the test
pub step_in : {n : ℕ} (f : ℕ → Bool) → f (suc n) ≡ true → set_of (suc n) f ≡ set_of n f + 2 ^ n
unfolding set_of
step_in f e = rw e

pub step-out : {n : ℕ} (f : ℕ → Bool) → f (suc n) ≡ false → set_of (suc n) f ≡ set_of n f
unfolding set_of
step-out {n} f e = rw e (add-zero (set_of n f))

pub set_of-below : (n : ℕ) (f : ℕ → Bool) → set_of n f < 2 ^ n
unfolding set_of
set_of-below zero f = omega arith
set_of-below (suc n) f = by (set_of-below n f) (decide (f (suc n)))
  where
    by : set_of n f < 2 ^ n → (f (suc n) ≡ true) ⊎ (f (suc n) ≡ false) → set_of (suc n) f < 2 ^ suc n
    by h (inl e) = omega (arith, step_in f e)
    by h (inr e) = omega (arith, step-out f e)

bit-set_of : (n : ℕ) (f : ℕ → Bool) (d : ℕ) → d < n → bit (pos (set_of n f)) d ≡ f (suc d)
bit-set_of zero f d h = absurd (not-suc-le-zero h)
bit-set_of (suc n) f d h = by (λ l. bit-set_of n f d l) (decide (f (suc n))) (last_or h)
  where
    by : (d < n → bit (pos (set_of n f)) d ≡ f (suc d)) → (f (suc n) ≡ true) ⊎ (f (suc n) ≡ false) → (d ≡ n) ⊎ (d < n)
        → bit (pos (set_of (suc n) f)) d ≡ f (suc d)
    by low (inl e) (inl p) = rw (step_in f e, p, e) (one_bit (pos (set_of n f + 2 ^ n)) n (place-high n (set_of-below n f)))
    by low (inr e) (inl p) = rw (step-out f e, p, e) (bit_past (pos (set_of n f)) (set_of-below n f) (le_refl n))
    by low (inl e) (inr l) = rw (step_in f e) (same_bit (pos (set_of n f + 2 ^ n)) (pos (set_of n f)) d (place-low n (set_of n f) d l) ∙ low l)
    by low (inr e) (inr l) = rw (step-out f e) (low l)

pub holds-set_of : (n : ℕ) (f : ℕ → Bool) (s : ℕ) → 1 ≤ s → s ≤ n → holds (pos (set_of n f)) s ≡ f s
unfolding holds
holds-set_of n f zero h k = absurd (not-suc-le-zero h)
holds-set_of n f (suc d) h k = bit-set_of n f d k

pub set_of-holds : (n : ℕ) (f : ℕ → Bool) (s : ℕ) → holds (pos (set_of n f)) s ≡ true → (s ≤ n) × (f s ≡ true)
set_of-holds n f s e =
    let k : s ≤ n = small-set (omega (ints, set_of-below n f)) e in
    (k, sym (holds-set_of n f s (member-ge-1 (pos (set_of n f)) e) k) ∙ e)

-- two tests that agree from 1 to n; and a test that fails there
pub set_of-same : {n : ℕ} {f g : ℕ → Bool} → ((s : ℕ) → 1 ≤ s → s ≤ n → f s ≡ g s) → set_of n f ≡ set_of n g
unfolding set_of
set_of-same {n = zero} h = refl
set_of-same {n = suc n} h =
    ap₂ (λ (x : ℕ) (b : Bool). x + cond b (2 ^ n) 0) (set_of-same {n = n} (λ s l k. h s l (omega arith))) (h (suc n) (omega arith) (omega arith))

pub set_of-none : {n : ℕ} (f : ℕ → Bool) → ((s : ℕ) → 1 ≤ s → s ≤ n → f s ≡ false) → set_of n f ≡ 0
unfolding set_of
set_of-none {n = zero} f h = refl
set_of-none {n = suc n} f h = step-out f (h (suc n) (omega arith) (omega arith)) ∙ set_of-none {n = n} f (λ s l k. h s l (omega arith))
