-- An integer read as a count, and the numbers of a range counted from its low end. `nat z` is `up z` to `omega ints`.
-- Assumes nothing.
use mathlib.Core.Path.{◌≡◌, ap}
use mathlib.Core.Logic.{⊎_elim}
use mathlib.Core.Bool.{true}
use Prim.Native.Nat.{ℕ, suc, ◌+◌, ◌-◌, ◌*◌, ◌≤◌, ◌<◌}
use native.Mathlib.Nat.{mul-le-mul_right, suc-mul}
use lib.Dec.{eqb}
use borrow.Author.Tests.{eqb-true, eq-eqb}
use lib.IntN.{ℤ, pos, nat_abs, ◌+ℤ◌, ◌-ℤ◌}
use lib.Signed.{◌≤ℤ◌, le_z}
use Rattle.integers.specs.Integer.{nat, up, dn, eq_z, within, width}
use Rattle.integers.proofs.Booleans.{both_ways, decide}
use Rattle.integers.proofs.Ints.{ints, abs, disjoint, sum, diff, lin, v, ◌⊕◌, ◌⊖◌, not-eq, eq_z-eq, within-true}

-- ---- counts
pub le-nat : {n : ℕ} {z : ℤ} → pos n ≤ℤ z → n ≤ nat z
le-nat {z} h = omega (ints, disjoint z)

pub nat_le : {n : ℕ} {z : ℤ} → z ≤ℤ pos n → nat z ≤ n
nat_le {z} h = omega (ints, disjoint z)

pub nat-from : {a b : ℕ} (z : ℤ) → within (pos a) (pos b) z ≡ true → (a ≤ nat z) × (nat z ≤ b)
nat-from z e = let w = within-true e in (le-nat w.0, nat_le w.1)

pub pos-nat : {z : ℤ} → pos 0 ≤ℤ z → pos (nat z) ≡ z
pos-nat {z} h = omega (ints, disjoint z)

pub nat-abs : {z : ℤ} → pos 0 ≤ℤ z → nat_abs z ≡ nat z
nat-abs {z} h = omega (ints, abs z, disjoint z)

pub nat-is : {z : ℤ} → pos 0 ≤ℤ z → (n : ℕ) → eqb (nat z) n ≡ eq_z z (pos n)
nat-is {z} h n = both_ways _ _
    (λ e. let q = eqb-true (nat z) n e in omega (ints, disjoint z))
    (λ e. eq-eqb (nat z) n (ap nat (eq_z-eq e)))

-- ---- ranges
-- a count from a, and the number of integers from a to b, in parts
pub nat-diff : (z a : ℤ) → nat (z -ℤ a) ≡ (up z + dn a) - (up a + dn z)
nat-diff z a = omega (ints, diff z a, disjoint (z -ℤ a))

pub width_is : (a b : ℤ) → width a b ≡ suc (up b + dn a) - (up a + dn b)
unfolding width
width_is a b = omega (ints, lin (v b ⊖ v a ⊕ v (pos 1)), disjoint (b -ℤ a +ℤ pos 1))

pub count : {a z : ℤ} → a ≤ℤ z → a +ℤ pos (nat (z -ℤ a)) ≡ z
count {a} {z} h = omega (ints, nat-diff z a, sum a (pos (nat (z -ℤ a))))

pub count-below : {a b z : ℤ} → a ≤ℤ z → z ≤ℤ b → nat (z -ℤ a) < width a b
count-below {a} {b} {z} h k = omega (ints, nat-diff z a, width_is a b)

pub counts : (a : ℤ) {m n : ℕ} → m ≤ n → (a +ℤ pos m) ≤ℤ (a +ℤ pos n)
counts a {m} {n} h = omega (ints, sum a (pos m), sum a (pos n))

pub width-le : {a b a' b' : ℤ} → a ≤ℤ a' → b' ≤ℤ b → width a' b' ≤ width a b
width-le {a} {b} {a'} {b'} h k = omega (ints, width_is a b, width_is a' b')

-- a range that is not empty, and a part of it that is not the whole
pub width-lt : {a b a' b' : ℤ} → a ≤ℤ b → a ≤ℤ a' → b' ≤ℤ b → (a ≡ a' → b ≡ b' → ⊥) → width a' b' < width a b
width-lt {a} {b} {a'} {b'} o h k ne =
    ⊎_elim (λ e. let q : a ≡ a' = omega ints in omega (ints, not-eq (ne q), width_is a b, width_is a' b'))
    (λ e. omega (ints, width_is a b, width_is a' b')) (decide (le_z a' a))

-- ---- record j of n records of w words each lies whole among them
pub record-ends : {j n : ℕ} (w : ℕ) → j < n → j * w + w ≤ n * w
record-ends {j} w h = rw (← suc-mul j w) (mul-le-mul_right w h)
