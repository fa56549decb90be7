-- Integers as the machine holds them: which fit an i64, an equality tested on bits, a sum whose every step fits, casts.
--     fits_word z g                   SFits w64 z of a word z that was read (g: mag z < 2 ^ 63, its size fits)
--     Within, within-..               bounds on the size of a number, which `omega ints` reads and proves
--     bnd, num, _+ʷ_, _-ʷ_            an expression as the machine computes it: `sum_fits x y tt`, `diff-fits x y tt`, `exact e tt`
--     cast_ok, abs-le, abs-pos        a word from 0 to n cast to an unsigned type
--     eqb-bits, bits-eq, bits-lit     an equality of words, which is tested on their bits
-- Assumes nothing.
use mathlib.Core.Path.{◌≡◌, sym, ap, ◌∙◌}
use mathlib.Core.Bool.{true}
use Prim.Native.Nat.{ℕ, ◌+◌, ◌^◌, ◌≤◌, ◌<◌}
use native.Mathlib.Omega.{arith}
use borrow.Author.Tests.{eq-eqb, eqb-true}
use lib.Dec.{T, ltb, eqb, ltb→lt, lt→ltb}
use lib.IntN.{ℤ, pos, nat_abs, ◌+ℤ◌, ◌-ℤ◌}
use lib.Signed.{◌≤ℤ◌, mag, non_neg}
use mir.Syntax.{Width, w64}
use mir.Val.{Fits, SFits, bits, to_z, of_z}
use mir.Facts.{to_z-of_z, to_z_pos}
use Rattle.integers.specs.Integer.{minus, eq_z, within, Within}
use Rattle.integers.proofs.Booleans.{both_ways}
use Rattle.integers.proofs.Ints.{ints, neg, sum, diff, abs, disjoint, non_neg-in, eq_z-eq, eq-eq_z, within-true}

pub fits_word : (z : ℤ) → mag z < 2 ^ 63 → SFits w64 z
fits_word z h = record { sfits = h }

-- ---- equality on bits
module _ {a b : ℤ} (f : SFits w64 a) (g : SFits w64 b) where
  pub bits-eq : of_z w64 a ≡ of_z w64 b → a ≡ b
  bits-eq e = sym (to_z-of_z f) ∙ ap (to_z w64) e ∙ to_z-of_z g

  pub eqb-bits : eqb (of_z w64 a) (of_z w64 b) ≡ eq_z a b
  eqb-bits = both_ways _ _ (λ e. eq-eq_z (bits-eq (eqb-true _ _ e))) (λ e. eq-eqb _ _ (ap (of_z w64) (eq_z-eq e)))

-- the same with a literal that is not negative: its bits are the number
pub bits-lit : {a : ℤ} {n : ℕ} → SFits w64 a → of_z w64 a ≡ n → T (ltb n (2 ^ 63)) → a ≡ pos n
bits-lit {a} {n} f e t = bits-eq f (fits_word (pos n) (ltb→lt n (2 ^ 63) t)) e

pub bits-not-lit : {a : ℤ} {n : ℕ} → (of_z w64 a ≡ n → ⊥) → a ≡ pos n → ⊥
bits-not-lit f e = f (ap (of_z w64) e)

-- ---- bounds
pub within-from : {n : ℕ} {z : ℤ} → minus n ≤ℤ z → z ≤ℤ pos n → Within n z
within-from {n} h k = omega (ints, neg (pos n))

pub within-test : {n : ℕ} {z : ℤ} → within (minus n) (pos n) z ≡ true → Within n z
within-test e = let w = within-true e in within-from w.0 w.1

pub from-within : {n : ℕ} {z : ℤ} → Within n z → (minus n ≤ℤ z) × (z ≤ℤ pos n)
from-within {n} h = omega (ints, neg (pos n))

pub within-pos : {m n : ℕ} → m ≤ n → Within n (pos m)
within-pos h = omega ints

pub within-weaken : {m n : ℕ} {z : ℤ} → m ≤ n → Within m z → Within n z
within-weaken h k = omega ints

-- of a number that equals a bounded one, and of one between two
pub within_by : {n : ℕ} {y z : ℤ} → y ≡ z → Within n z → Within n y
within_by e h = omega ints

pub within-between : {n : ℕ} {a b z : ℤ} → Within n a → Within n b → a ≤ℤ z → z ≤ℤ b → Within n z
within-between h k p q = omega ints

pub within-sum : {m n : ℕ} {a b : ℤ} → Within m a → Within n b → Within (m + n) (a +ℤ b)
within-sum {a} {b} h k = omega (ints, sum a b)

pub within-diff : {m n : ℕ} {a b : ℤ} → Within m a → Within n b → Within (m + n) (a -ℤ b)
within-diff {a} {b} h k = omega (ints, diff a b)

pub within-fits : {n : ℕ} {z : ℤ} → Within n z → T (ltb n (2 ^ 63)) → SFits w64 z
within-fits {n} b t = let h : n < 2 ^ 63 = ltb→lt n (2 ^ 63) t in omega ints

-- ---- an expression as the machine computes it: each local holds bits, so that a + b − c is the number of the bits of
-- the number of the bits of a + b, less c
-- the bits x stand for z, and −n ≤ z ≤ n
pub record Held (n x : ℕ) (z : ℤ) : Type 0 where
  pub value : to_z w64 x ≡ z
  pub bound : Within n z

pub val : {n : ℕ} {z : ℤ} → Within n z → T (ltb n (2 ^ 63)) → Held n (of_z w64 z) z
val b t = record { value = to_z-of_z (within-fits b t); bound = b }

pub lit : (k : ℕ) → T (ltb k (2 ^ 63)) → Held k k (pos k)
lit k t = record { value = to_z_pos w64 (ltb→lt k (2 ^ 63) t); bound = omega ints }

module _ {m n x y : ℕ} {a b : ℤ} (p : Held m x a) (q : Held n y b) (t : T (ltb (m + n) (2 ^ 63))) where
  pub add-fits : SFits w64 (to_z w64 x +ℤ to_z w64 y)
  add-fits = rw (p.value, q.value) (within-fits (within-sum p.bound q.bound) t)

  pub sub-fits : SFits w64 (to_z w64 x -ℤ to_z w64 y)
  sub-fits = rw (p.value, q.value) (within-fits (within-diff p.bound q.bound) t)

  pub held-sum : Held (m + n) (of_z w64 (to_z w64 x +ℤ to_z w64 y)) (a +ℤ b)
  held-sum = record { value = to_z-of_z add-fits ∙ rw (p.value, q.value); bound = within-sum p.bound q.bound }

  pub held-diff : Held (m + n) (of_z w64 (to_z w64 x -ℤ to_z w64 y)) (a -ℤ b)
  held-diff = record { value = to_z-of_z sub-fits ∙ rw (p.value, q.value); bound = within-diff p.bound q.bound }

-- the same for a whole expression: `bnd h` is a word with the bound h, `num k` a literal
infixl 6 ◌+ʷ◌ ◌-ʷ◌
pub data Expr : Type 0 where
  bnd : {n : ℕ} {z : ℤ} → Within n z → Expr
  num : ℕ → Expr
  ◌+ʷ◌ ◌-ʷ◌ : Expr → Expr → Expr

-- its value; a bound on its size; its bits, as the machine computes them
abbrev pub value_of : Expr → ℤ
value_of (bnd {n} {z} h) = z
value_of (num k) = pos k
value_of (x +ʷ y) = value_of x +ℤ value_of y
value_of (x -ʷ y) = value_of x -ℤ value_of y

abbrev pub size_of : Expr → ℕ
size_of (bnd {n} {z} h) = n
size_of (num k) = k
size_of (x +ʷ y) = size_of x + size_of y
size_of (x -ʷ y) = size_of x + size_of y

abbrev pub bits_of : Expr → ℕ
bits_of (bnd {n} {z} h) = of_z w64 z
bits_of (num k) = k
bits_of (x +ʷ y) = of_z w64 (to_z w64 (bits_of x) +ℤ to_z w64 (bits_of y))
bits_of (x -ʷ y) = of_z w64 (to_z w64 (bits_of x) -ℤ to_z w64 (bits_of y))

-- a bound on a sum bounds its terms
left_below : (m n : ℕ) → T (ltb (m + n) (2 ^ 63)) → T (ltb m (2 ^ 63))
left_below m n t = lt→ltb m (2 ^ 63) (omega (arith, ltb→lt (m + n) (2 ^ 63) t))

right-below : (m n : ℕ) → T (ltb (m + n) (2 ^ 63)) → T (ltb n (2 ^ 63))
right-below m n t = lt→ltb n (2 ^ 63) (omega (arith, ltb→lt (m + n) (2 ^ 63) t))

pub held : (e : Expr) → T (ltb (size_of e) (2 ^ 63)) → Held (size_of e) (bits_of e) (value_of e)
held (bnd h) t = val h t
held (num k) t = lit k t
held (x +ʷ y) t = held-sum (held x (left_below (size_of x) (size_of y) t)) (held y (right-below (size_of x) (size_of y) t)) t
held (x -ʷ y) t = held-diff (held x (left_below (size_of x) (size_of y) t)) (held y (right-below (size_of x) (size_of y) t)) t

-- what a need asks: each sum and difference fits, and the result is the value
module _ (x y : Expr) (t : T (ltb (size_of x + size_of y) (2 ^ 63))) where
  pub sum_fits : SFits w64 (to_z w64 (bits_of x) +ℤ to_z w64 (bits_of y))
  sum_fits = add-fits (held x (left_below (size_of x) (size_of y) t)) (held y (right-below (size_of x) (size_of y) t)) t

  pub diff-fits : SFits w64 (to_z w64 (bits_of x) -ℤ to_z w64 (bits_of y))
  diff-fits = sub-fits (held x (left_below (size_of x) (size_of y) t)) (held y (right-below (size_of x) (size_of y) t)) t

pub exact : (e : Expr) → T (ltb (size_of e) (2 ^ 63)) → to_z w64 (bits_of e) ≡ value_of e
exact e t = (held e t).value

pub exact-within : (e : Expr) → T (ltb (size_of e) (2 ^ 63)) → Within (size_of e) (value_of e)
exact-within e t = (held e t).bound

-- ---- a word that is not negative, cast to an unsigned type
pub abs-pos : {z : ℤ} → pos 0 ≤ℤ z → pos (nat_abs z) ≡ z
abs-pos {z} l = omega (ints, abs z, disjoint z)

pub abs-le : {n : ℕ} {z : ℤ} → pos 0 ≤ℤ z → z ≤ℤ pos n → nat_abs z ≤ n
abs-le {z} l h = omega (ints, abs z, disjoint z)

pub cast_ok : {n : ℕ} {z : ℤ} {w : Width} → pos 0 ≤ℤ z → z ≤ℤ pos n → T (ltb n (2 ^ 63)) → T (ltb n (2 ^ bits w))
    → T (non_neg (to_z w64 (of_z w64 z))) × Fits w (nat_abs (to_z w64 (of_z w64 z)))
cast_ok {n} {z} {w} l h t u =
    let k : n < 2 ^ bits w = ltb→lt n (2 ^ bits w) u in
    let b : Within n z = omega ints in
    rw (to_z-of_z (within-fits b t)) (non_neg-in z (omega ints), record { fits = omega (ints, abs z, disjoint z) })
