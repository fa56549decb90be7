-- The bits of a number: which are set, how many, the lowest one; a number is told by its bits. The counts `ones` and
-- `count_trailing_zeros` are the machine's, of lib.Count. Assumes nothing.
use mathlib.Core.Path.{◌≡◌, refl, sym, ap, ◌∙◌, subst}
use mathlib.Core.Logic.{◌⊎◌, inl, inr, ⊎_elim}
use mathlib.Core.Bool.{true, false}
use Prim.Native.Nat.{ℕ, zero, suc, ◌+◌, ◌*◌, ◌/◌, ◌%◌, ◌^◌, ◌≤◌, ◌<◌, zero-le}
use native.Mathlib.Nat.{div-one, div-div-eq-div-mul, div-eq_of_lt, pow-succ', zero-add, le_refl, le_antisymm, lt_of_lt_of_le}
use native.Mathlib.Omega.{arith}
use borrow.Author.Tests.{eq-eqb, ne_eqb, eqb-true}
use lib.Arith.{bin_ind}
use lib.Dec.{eqb}
use lib.Count.{ones, ones_step, ones_cat, count_trailing_zeros, under}
use lib.IntN.{ℤ}
use lib.Pow.{high, pow_mono, pow-lt, pow_pos}
use Rattle.integers.specs.Integer.{nat}
use Rattle.integers.specs.Bits.{bit_at, bit}
use Rattle.integers.proofs.Below.{same_or, below_or}

-- ---- the lowest bit, and those above it
pub bit_at-zero : (x : ℕ) → bit_at x 0 ≡ x % 2
unfolding bit_at
bit_at-zero x = ap (λ (n : ℕ). n % 2) (div-one x)

pub bit_at-suc : (x d : ℕ) → bit_at x (suc d) ≡ bit_at (x / 2) d
unfolding bit_at
bit_at-suc x d = rw (pow-succ', div-div-eq-div-mul)

pub bit_at-small : (x d : ℕ) → bit_at x d < 2
unfolding bit_at
bit_at-small x d = omega arith

-- not 1: 0
pub bit_at-clear : (x d : ℕ) → (bit_at x d ≡ 1 → ⊥) → bit_at x d ≡ 0
bit_at-clear x d f = omega (arith, bit_at-small x d)

-- a number of k digits has none past them
pub bit_at-past : {k x d : ℕ} → x < 2 ^ k → k ≤ d → bit_at x d ≡ 0
unfolding bit_at
bit_at-past h l = ap (λ (n : ℕ). n % 2) (div-eq_of_lt (lt_of_lt_of_le h (pow_mono l)))

pub bit_at-none : (d : ℕ) → bit_at 0 d ≡ 0
bit_at-none d = bit_at-past (pow_pos d) (le_refl d)

-- a number with a bit is not 0
pub bit_at-pos : {x : ℕ} (d : ℕ) → bit_at x d ≡ 1 → 0 < x
bit_at-pos {x = zero} d e = absurd (omega (arith, sym (bit_at-none d) ∙ e))
bit_at-pos {x = suc x} d e = omega arith

-- ---- the bit test of a set
pub bit-one : (z : ℤ) (d : ℕ) → bit z d ≡ true → bit_at (nat z) d ≡ 1
unfolding bit
bit-one z d e = eqb-true _ 1 e

pub one_bit : (z : ℤ) (d : ℕ) → bit_at (nat z) d ≡ 1 → bit z d ≡ true
unfolding bit
one_bit z d e = eq-eqb _ 1 e

pub zero_bit : (z : ℤ) (d : ℕ) → bit_at (nat z) d ≡ 0 → bit z d ≡ false
unfolding bit
zero_bit z d e = ne_eqb (bit_at (nat z) d) 1 (λ q. omega (arith, sym e ∙ q))

pub same_bit : (y z : ℤ) (d : ℕ) → bit_at (nat y) d ≡ bit_at (nat z) d → bit y d ≡ bit z d
unfolding bit
same_bit y z d e = ap (λ (x : ℕ). eqb x 1) e

pub bit_past : {k d : ℕ} (z : ℤ) → nat z < 2 ^ k → k ≤ d → bit z d ≡ false
bit_past {k} {d} z h l = zero_bit z d (bit_at-past h l)

-- ---- fewer bits, a smaller number; the same bits, the same number
-- even or odd
abbrev Parity : ℕ → Type 0
Parity x = (x % 2 ≡ 0) ⊎ (x % 2 ≡ 1)

parity : (x : ℕ) → Parity x
parity x = ⊎_elim inl (λ f. inr (omega arith)) (same_or (x % 2) 0)

pub bits-le : {a b : ℕ} → ((d : ℕ) → bit_at a d ≡ 1 → bit_at b d ≡ 1) → a ≤ b
bits-le {a} {b} = bin_ind (λ (a : ℕ). (b : ℕ) → ((d : ℕ) → bit_at a d ≡ 1 → bit_at b d ≡ 1) → a ≤ b) (λ b h. zero-le) step a b
  where
    step : (a : ℕ) → ((b : ℕ) → ((d : ℕ) → bit_at (a / 2) d ≡ 1 → bit_at b d ≡ 1) → a / 2 ≤ b)
        → (b : ℕ) → ((d : ℕ) → bit_at a d ≡ 1 → bit_at b d ≡ 1) → a ≤ b
    step a halves b h = by (halves (b / 2) (λ d e. sym (bit_at-suc b d) ∙ h (suc d) (bit_at-suc a d ∙ e))) (parity a)
      where
        by : a / 2 ≤ b / 2 → Parity a → a ≤ b
        by l (inl e) = omega arith
        by l (inr e) = omega (arith, sym (bit_at-zero b) ∙ h 0 (bit_at-zero a ∙ e))

pub same_bits : {a b : ℕ} → ((d : ℕ) → bit_at a d ≡ bit_at b d) → a ≡ b
same_bits h = le_antisymm (bits-le (λ d e. sym (h d) ∙ e)) (bits-le (λ d e. h d ∙ e))

-- ---- a number of k digits, and the digit after them
pub place-high : (k : ℕ) {x : ℕ} → x < 2 ^ k → bit_at (x + 2 ^ k) k ≡ 1
unfolding bit_at
place-high k {x} h = ap (λ (n : ℕ). n % 2) (ap (λ (n : ℕ). n / 2 ^ k) (turn x (2 ^ k)) ∙ high 1 k h)
  where
    turn : (x p : ℕ) → x + p ≡ 1 * p + x
    turn x p = omega arith

pub place-low : (k x d : ℕ) → d < k → bit_at (x + 2 ^ k) d ≡ bit_at x d
place-low zero x d h = absurd (omega arith)
place-low (suc k) x zero h = let e : (x + 2 ^ suc k) % 2 ≡ x % 2 = omega arith in bit_at-zero (x + 2 ^ suc k) ∙ e ∙ sym (bit_at-zero x)
place-low (suc k) x (suc d) h =
    let e : (x + 2 ^ suc k) / 2 ≡ x / 2 + 2 ^ k = omega arith in
    bit_at-suc (x + 2 ^ suc k) d ∙ ap (λ (n : ℕ). bit_at n d) e ∙ place-low k (x / 2) d (omega arith) ∙ sym (bit_at-suc x d)

-- ---- the one bit that is set
pub record Only (x s : ℕ) : Type 0 where
  pub here : bit_at x s ≡ 1
  pub sole : (d : ℕ) → bit_at x d ≡ 1 → d ≡ s

pub power-only : (s : ℕ) → Only (2 ^ s) s
power-only s = record { here = subst (λ (n : ℕ). bit_at n s ≡ 1) (zero-add (2 ^ s)) (place-high s (pow_pos s)); sole = sole }
  where
    sole : (d : ℕ) → bit_at (2 ^ s) d ≡ 1 → d ≡ s
    sole d e = by (below_or d s) (below_or s d)
      where
        by : (d < s) ⊎ (s ≤ d) → (s < d) ⊎ (d ≤ s) → d ≡ s
        by (inl l) m = absurd (omega (arith, sym e ∙ ap (λ (n : ℕ). bit_at n d) (sym (zero-add (2 ^ s))) ∙ place-low s 0 d l ∙ bit_at-none d))
        by (inr l) (inl m) = absurd (omega (arith, sym e ∙ bit_at-past (pow-lt m) (le_refl d)))
        by (inr l) (inr m) = omega arith

pub only-power : {x s : ℕ} → Only x s → x ≡ 2 ^ s
only-power {x} {s} o = same_bits (λ d. ⊎_elim (at-s d) (apart d) (same_or d s))
  where
    at-s : (d : ℕ) → d ≡ s → bit_at x d ≡ bit_at (2 ^ s) d
    at-s d e = ap (bit_at x) e ∙ o.here ∙ sym (ap (bit_at (2 ^ s)) e ∙ (power-only s).here)

    apart : (d : ℕ) → (d ≡ s → ⊥) → bit_at x d ≡ bit_at (2 ^ s) d
    apart d f = bit_at-clear x d (λ e. f (o.sole d e)) ∙ sym (bit_at-clear (2 ^ s) d (λ e. f ((power-only s).sole d e)))

-- ---- how many bits are set
pub ones_none : (x : ℕ) → ones x ≡ 0 → x ≡ 0
ones_none = bin_ind (λ (x : ℕ). ones x ≡ 0 → x ≡ 0) (λ e. refl) step
  where
    step : (x : ℕ) → (ones (x / 2) ≡ 0 → x / 2 ≡ 0) → ones x ≡ 0 → x ≡ 0
    step x half e = omega (arith, ones_step x, half (omega (arith, ones_step x)))

pub only_one : {x s : ℕ} → Only x s → ones x ≡ 1
unfolding ones
only_one {x} {s} o = ap ones (only-power o ∙ turn (2 ^ s)) ∙ ones_cat s 1 0 (pow_pos s)
  where
    turn : (p : ℕ) → p ≡ 1 * p + 0
    turn p = omega arith

-- ---- the lowest set bit
tz-even : (k x : ℕ) → x % 2 ≡ 0 → count_trailing_zeros (suc k) x ≡ suc (count_trailing_zeros k (x / 2))
unfolding count_trailing_zeros
tz-even k x e = ap (λ (d : ℕ). under d (count_trailing_zeros k (x / 2))) e

tz_odd : (k x : ℕ) → x % 2 ≡ 1 → count_trailing_zeros (suc k) x ≡ 0
unfolding count_trailing_zeros
tz_odd k x e = ap (λ (d : ℕ). under d (count_trailing_zeros k (x / 2))) e

pub tz-lt : (k : ℕ) {x : ℕ} → x < 2 ^ k → 0 < x → count_trailing_zeros k x < k
tz-lt zero h p = absurd (omega arith)
tz-lt (suc k) {x} h p = by (λ q. tz-lt k {x = x / 2} (omega arith) q) (parity x)
  where
    by : (0 < x / 2 → count_trailing_zeros k (x / 2) < k) → Parity x → count_trailing_zeros (suc k) x < suc k
    by half (inl e) = omega (arith, tz-even k x e, half (omega arith))
    by half (inr e) = omega (arith, tz_odd k x e)

pub tz-bit : (k : ℕ) {x : ℕ} → x < 2 ^ k → 0 < x → bit_at x (count_trailing_zeros k x) ≡ 1
tz-bit zero h p = absurd (omega arith)
tz-bit (suc k) {x} h p = by (λ q. tz-bit k {x = x / 2} (omega arith) q) (parity x)
  where
    by : (0 < x / 2 → bit_at (x / 2) (count_trailing_zeros k (x / 2)) ≡ 1) → Parity x → bit_at x (count_trailing_zeros (suc k) x) ≡ 1
    by half (inl e) = rw (tz-even k x e) (bit_at-suc x _ ∙ half (omega arith))
    by half (inr e) = rw (tz_odd k x e) (bit_at-zero x ∙ e)

pub tz-below : (k x d : ℕ) → d < count_trailing_zeros k x → bit_at x d ≡ 0
unfolding count_trailing_zeros
tz-below zero x d h = absurd (omega arith)
tz-below (suc k) x d h = by d (tz-below k (x / 2)) (parity x) h
  where
    by : (d : ℕ) → ((c : ℕ) → c < count_trailing_zeros k (x / 2) → bit_at (x / 2) c ≡ 0) → Parity x
        → d < count_trailing_zeros (suc k) x → bit_at x d ≡ 0
    by d half (inr e) h = absurd (omega (arith, tz_odd k x e))
    by zero half (inl e) h = bit_at-zero x ∙ e
    by (suc d) half (inl e) h = bit_at-suc x d ∙ half d (omega (arith, tz-even k x e))

below_power : (n : ℕ) → n < 2 ^ n
below_power zero = omega arith
below_power (suc n) = omega (arith, below_power n)

-- a number that is not 0 has a bit
pub some-bit : (x : ℕ) → 0 < x → (d : ℕ) × (bit_at x d ≡ 1)
some-bit x h = (count_trailing_zeros x x, tz-bit x (below_power x) h)

-- ---- one bit is set exactly where the count is 1, and it is the lowest
pub one_power : (k : ℕ) {x : ℕ} → x < 2 ^ k → ones x ≡ 1 → x ≡ 2 ^ count_trailing_zeros k x
unfolding ones
one_power zero {x} h o = let e : x ≡ 0 = omega arith in absurd (omega (arith, sym o ∙ ap ones e))
one_power (suc k) {x} h o = by (λ q. one_power k {x = x / 2} (omega arith) q) (parity x)
  where
    by : (ones (x / 2) ≡ 1 → x / 2 ≡ 2 ^ count_trailing_zeros k (x / 2)) → Parity x → x ≡ 2 ^ count_trailing_zeros (suc k) x
    by half (inl e) = rw (tz-even k x e) (omega (arith, half (omega (arith, ones_step x))))
    by half (inr e) = rw (tz_odd k x e) (omega (arith, ones_none (x / 2) (omega (arith, ones_step x))))

pub one_only : (k : ℕ) {x : ℕ} → x < 2 ^ k → ones x ≡ 1 → Only x (count_trailing_zeros k x)
one_only k {x} h o = subst (λ (n : ℕ). Only n (count_trailing_zeros k x)) (sym (one_power k h o)) (power-only (count_trailing_zeros k x))

pub one-lt : (k : ℕ) {x : ℕ} → x < 2 ^ k → ones x ≡ 1 → count_trailing_zeros k x < k
one-lt k {x} h o = tz-lt k h (omega (arith, one_power k h o, pow_pos (count_trailing_zeros k x)))
