-- Linear facts over ℤ, for `omega`, which reads only the naturals: z is sent to its two parts, z = up z − dn z.
--     omega ints               proves ≤ℤ, <ℤ, ≡, Within, SFits w64 and the tests le_z, lt_z, eq_z, within, from such facts in reach and
--                              facts of ℕ; what a passed `within` says it reads as `omega (ints, within-true e)`
--     omega (ints, lin e)      the same with a sum: `lin (v a ⊕ v b ⊖ v c)` for a +ℤ b -ℤ c, a literal being `v (pos 1)`
--     omega (ints, not-le h)   the same with a negated fact: not-le, not-lt, not-eq
--     disjoint z, abs z        for a bound on the size of z
-- Assumes nothing.
use mathlib.Core.Path.{◌≡◌, refl, ap, ap₂, ◌∙◌, subst}
use mathlib.Core.Logic.{◌≢◌}
use mathlib.Core.Bool.{Bool, true, false, not, cond, ◌&&◌, ◌||◌}
use Prim.Native.Nat.{ℕ, zero, suc, ◌+◌, ◌-◌, ◌^◌, ◌≤◌, ◌<◌}
use native.Mathlib.Omega.{arith}
use borrow.Author.Tests.{eq-eqb, eqb-true, leb-true, leb-false, ltb-true, ltb-false}
use lib.Dec.{T, ltb}
use lib.IntN.{ℤ, pos, negsuc, neg_ℤ, nat_abs, ◌+ℤ◌, ◌-ℤ◌, sub_ℕ}
use lib.Signed.{◌≤ℤ◌, ◌<ℤ◌, le_z, lt_z, le_z_yes, lt_z_yes, mag, non_neg}
use mir.Syntax.{w64}
use mir.Val.{SFits, to_z, of_z}
use mir.Facts.{to_z-of_z}
use Rattle.integers.specs.Integer.{up, dn, eq_z, within, max_z, min_z}
use Rattle.integers.proofs.Booleans.{true-T, T_true, clash, passes, fails, and-true, true-and, and_left, and_right, and-swap, nor, or_comm}

-- ---- the tests, as a branch leaves them: what a test says of the parts, and the test from the parts
pub le_z-true : (a b : ℤ) → le_z a b ≡ true → up a + dn b ≤ up b + dn a
le_z-true (pos a) (pos b) e = omega (arith, leb-true a b e)
le_z-true (pos a) (negsuc b) e = clash e refl
le_z-true (negsuc a) (pos b) e = omega arith
le_z-true (negsuc a) (negsuc b) e = omega (arith, leb-true b a e)

pub le_z-false : (a b : ℤ) → le_z a b ≡ false → up b + dn a < up a + dn b
le_z-false (pos a) (pos b) e = omega (arith, leb-false a b e)
le_z-false (pos a) (negsuc b) e = omega arith
le_z-false (negsuc a) (pos b) e = clash refl e
le_z-false (negsuc a) (negsuc b) e = omega (arith, leb-false b a e)

pub lt_z-true : (a b : ℤ) → lt_z a b ≡ true → up a + dn b < up b + dn a
lt_z-true (pos a) (pos b) e = omega (arith, ltb-true a b e)
lt_z-true (pos a) (negsuc b) e = clash e refl
lt_z-true (negsuc a) (pos b) e = omega arith
lt_z-true (negsuc a) (negsuc b) e = omega (arith, ltb-true b a e)

pub lt_z-false : (a b : ℤ) → lt_z a b ≡ false → up b + dn a ≤ up a + dn b
lt_z-false (pos a) (pos b) e = omega (arith, ltb-false a b e)
lt_z-false (pos a) (negsuc b) e = omega arith
lt_z-false (negsuc a) (pos b) e = clash refl e
lt_z-false (negsuc a) (negsuc b) e = omega (arith, ltb-false b a e)

pub true-le_z : (a b : ℤ) → up a + dn b ≤ up b + dn a → le_z a b ≡ true
true-le_z a b h = passes (λ e. omega (arith, le_z-false a b e))

pub false-le_z : (a b : ℤ) → up b + dn a < up a + dn b → le_z a b ≡ false
false-le_z a b h = fails (λ e. omega (arith, le_z-true a b e))

pub true-lt_z : (a b : ℤ) → up a + dn b < up b + dn a → lt_z a b ≡ true
true-lt_z a b h = passes (λ e. omega (arith, lt_z-false a b e))

pub false-lt_z : (a b : ℤ) → up b + dn a ≤ up a + dn b → lt_z a b ≡ false
false-lt_z a b h = fails (λ e. omega (arith, lt_z-true a b e))

-- ---- order and equality in their parts
pub le-of-test : {a b : ℤ} → le_z a b ≡ true → a ≤ℤ b
le-of-test e = le_z_yes (true-T e)

pub test-of-le : {a b : ℤ} → a ≤ℤ b → le_z a b ≡ true
test-of-le h = T_true _ h.le

pub le_out : {a b : ℤ} → a ≤ℤ b → up a + dn b ≤ up b + dn a
le_out {a} {b} h = le_z-true a b (test-of-le h)

pub lt_out : {a b : ℤ} → a <ℤ b → up a + dn b < up b + dn a
lt_out {a} {b} h = lt_z-true a b (T_true _ h.lt)

pub le_in : {a b : ℤ} → up a + dn b ≤ up b + dn a → a ≤ℤ b
le_in {a} {b} h = le-of-test (true-le_z a b h)

pub lt_in : {a b : ℤ} → up a + dn b < up b + dn a → a <ℤ b
lt_in {a} {b} h = lt_z_yes (true-T (true-lt_z a b h))

pub eq-out : {a b : ℤ} → a ≡ b → up a + dn b ≡ up b + dn a
eq-out {a} {b} e = subst (λ (z : ℤ). up a + dn z ≡ up z + dn a) e refl

pub eq-in : {a b : ℤ} → up a + dn b ≡ up b + dn a → a ≡ b
eq-in {a = pos a} {b = pos b} h = ap pos (omega arith)
eq-in {a = pos a} {b = negsuc b} h = absurd (omega arith)
eq-in {a = negsuc a} {b = pos b} h = absurd (omega arith)
eq-in {a = negsuc a} {b = negsuc b} h = ap negsuc (omega arith)

pub eq_z-eq : {a b : ℤ} → eq_z a b ≡ true → a ≡ b
unfolding eq_z
eq_z-eq {a = pos a} {b = pos b} e = ap pos (eqb-true a b e)
eq_z-eq {a = pos a} {b = negsuc b} e = clash e refl
eq_z-eq {a = negsuc a} {b = pos b} e = clash e refl
eq_z-eq {a = negsuc a} {b = negsuc b} e = ap negsuc (eqb-true a b e)

pub eq_z-refl : (a : ℤ) → eq_z a a ≡ true
unfolding eq_z
eq_z-refl (pos a) = eq-eqb a a refl
eq_z-refl (negsuc a) = eq-eqb a a refl

pub eq-eq_z : {a b : ℤ} → a ≡ b → eq_z a b ≡ true
eq-eq_z {a} {b} e = ap (λ (z : ℤ). eq_z z b) e ∙ eq_z-refl b

pub eq_z-true : (a b : ℤ) → eq_z a b ≡ true → up a + dn b ≡ up b + dn a
eq_z-true a b e = eq-out (eq_z-eq e)

pub true-eq_z : (a b : ℤ) → up a + dn b ≡ up b + dn a → eq_z a b ≡ true
true-eq_z a b e = eq-eq_z (eq-in {a = a} {b = b} e)

pub eq_z-false : (a b : ℤ) → eq_z a b ≡ false → up a + dn b ≢ up b + dn a
eq_z-false a b e q = clash (true-eq_z a b q) e

pub false-eq_z : (a b : ℤ) → up a + dn b ≢ up b + dn a → eq_z a b ≡ false
false-eq_z a b f = fails (λ e. f (eq_z-true a b e))

-- both ends as one equation, so that `omega` can turn a goal
pub within_in : (a b z : ℤ) → (up a + dn z - (up z + dn a)) + (up z + dn b - (up b + dn z)) ≡ 0 → within a b z ≡ true
unfolding within
within_in a b z h = true-and (true-le_z a z (omega arith)) (true-le_z z b (omega arith))

-- ---- what does not hold
pub not-le : {a b : ℤ} → (a ≤ℤ b → ⊥) → up b + dn a < up a + dn b
not-le {a} {b} f = le_z-false a b (fails (λ e. f (le_in (le_z-true a b e))))

pub not-lt : {a b : ℤ} → (a <ℤ b → ⊥) → up b + dn a ≤ up a + dn b
not-lt {a} {b} f = lt_z-false a b (fails (λ e. f (lt_in (lt_z-true a b e))))

pub not-eq : {a b : ℤ} → (a ≡ b → ⊥) → up a + dn b ≢ up b + dn a
not-eq {a} {b} f e = f (eq-in {a = a} {b = b} e)

-- ---- sum, difference, negation
pub neg : (a : ℤ) → (up (neg_ℤ a) ≡ dn a) × (dn (neg_ℤ a) ≡ up a)
neg (pos zero) = (refl, refl)
neg (pos (suc n)) = (refl, refl)
neg (negsuc n) = (refl, refl)

-- a − b of two naturals
difference : (a b : ℕ) → up (sub_ℕ a b) + b ≡ a + dn (sub_ℕ a b)
difference a b = by (ltb a b) refl
  where
    by : (t : Bool) → ltb a b ≡ t → up (cond t (negsuc (b - suc a)) (pos (a - b))) + b ≡ a + dn (cond t (negsuc (b - suc a)) (pos (a - b)))
    by true e = omega (arith, ltb-true a b e)
    by false e = omega (arith, ltb-false a b e)

pub sum : (a b : ℤ) → up (a +ℤ b) + (dn a + dn b) ≡ (up a + up b) + dn (a +ℤ b)
sum (pos a) (pos b) = omega arith
sum (pos a) (negsuc b) = omega (arith, difference a (suc b))
sum (negsuc a) (pos b) = omega (arith, difference b (suc a))
sum (negsuc a) (negsuc b) = omega arith

pub diff : (a b : ℤ) → up (a -ℤ b) + (dn a + up b) ≡ (up a + dn b) + dn (a -ℤ b)
diff a b = omega (arith, sum a (neg_ℤ b), neg b)

-- a sum of several terms, so that one fact serves for the whole
infixl 6 ◌⊕◌ ◌⊖◌
pub data Sum : Type 0 where
  v : ℤ → Sum
  ◌⊕◌ ◌⊖◌ : Sum → Sum → Sum

abbrev pub total : Sum → ℤ
total (v z) = z
total (x ⊕ y) = total x +ℤ total y
total (x ⊖ y) = total x -ℤ total y

-- what adds to the total, and what takes from it
abbrev pub parts : Sum → ℕ × ℕ
parts (v z) = (up z, dn z)
parts (x ⊕ y) = ((parts x).0 + (parts y).0, (parts x).1 + (parts y).1)
parts (x ⊖ y) = ((parts x).0 + (parts y).1, (parts x).1 + (parts y).0)

pub lin : (e : Sum) → up (total e) + (parts e).1 ≡ (parts e).0 + dn (total e)
lin (v z) = refl
lin (x ⊕ y) = omega (arith, sum (total x) (total y), lin x, lin y)
lin (x ⊖ y) = omega (arith, diff (total x) (total y), lin x, lin y)

-- ---- sizes
-- one of the two parts is 0
pub disjoint : (z : ℤ) → (up z ≡ up z - dn z) × (dn z ≡ dn z - up z)
disjoint (pos n) = (omega arith, omega arith)
disjoint (negsuc n) = (omega arith, omega arith)

pub abs : (z : ℤ) → nat_abs z ≡ up z + dn z
abs (pos n) = omega arith
abs (negsuc n) = omega arith

pub non_neg-in : (z : ℤ) → dn z ≤ up z → T (non_neg z)
non_neg-in (pos n) h = tt
non_neg-in (negsuc n) h = absurd (omega arith)

-- ---- the range of an i64, as one statement on the size
mag-below : (z : ℤ) → up z < 2 ^ 63 + dn z → dn z ≤ 2 ^ 63 + up z → mag z < 2 ^ 63
mag-below (pos n) h k = omega arith
mag-below (negsuc n) h k = omega arith

pub fits_in : (z : ℤ) → (up z - dn z) + (dn z - up z) < 2 ^ 63 → SFits w64 z
fits_in z h = record { sfits = mag-below z (omega arith) (omega arith) }

pub fits_out : {z : ℤ} → SFits w64 z → (up z - dn z) + (dn z - up z) ≤ 2 ^ 63
fits_out {z = pos n} h = let k : n < 2 ^ 63 = h.sfits in omega arith
fits_out {z = negsuc n} h = let k : n < 2 ^ 63 = h.sfits in omega arith

-- what a local holds are bits; read back, they are the number
pub back : {z : ℤ} → SFits w64 z → up (to_z w64 (of_z w64 z)) + dn z ≡ up z + dn (to_z w64 (of_z w64 z))
back {z} h = eq-out (to_z-of_z h)

pub ruleset ints = (
  arith,
  le_out,
  lt_out,
  le_in,
  lt_in,
  eq-out,
  eq-in,
  le_z-true,
  le_z-false,
  lt_z-true,
  lt_z-false,
  eq_z-true,
  eq_z-false,
  true-le_z,
  false-le_z,
  true-lt_z,
  false-lt_z,
  true-eq_z,
  false-eq_z,
  within_in,
  fits_in,
  back,
)

-- ---- the order's laws (≤ℤ-refl stands in lib.Signed)
pub ≤ℤ-trans : {a b c : ℤ} → a ≤ℤ b → b ≤ℤ c → a ≤ℤ c
≤ℤ-trans h k = omega ints

pub ≤ℤ-antisym : {a b : ℤ} → a ≤ℤ b → b ≤ℤ a → a ≡ b
≤ℤ-antisym h k = omega ints

-- ---- the range test
pub within-true : {a b z : ℤ} → within a b z ≡ true → (a ≤ℤ z) × (z ≤ℤ b)
unfolding within
within-true {a} {b} {z} e = let w : (le_z a z ≡ true) × (le_z z b ≡ true) = and-true e in (le-of-test w.0, le-of-test w.1)

pub true-within : {a b z : ℤ} → a ≤ℤ z → z ≤ℤ b → within a b z ≡ true
true-within h k = omega ints

-- one range cut by another
le-max : (a b z : ℤ) → le_z (max_z a b) z ≡ (le_z a z && le_z b z)
le-max a b z = by (le_z a b) refl
  where
    by : (t : Bool) → le_z a b ≡ t → le_z (cond t b a) z ≡ (le_z a z && le_z b z)
    by true e = and_right (le_z a z) (le_z b z) (λ h. omega ints)
    by false e = and_left (le_z a z) (le_z b z) (λ h. omega ints)

le-min : (a b z : ℤ) → le_z z (min_z a b) ≡ (le_z z a && le_z z b)
le-min a b z = by (le_z a b) refl
  where
    by : (t : Bool) → le_z a b ≡ t → le_z z (cond t a b) ≡ (le_z z a && le_z z b)
    by true e = and_left (le_z z a) (le_z z b) (λ h. omega ints)
    by false e = and_right (le_z z a) (le_z z b) (λ h. omega ints)

pub within-cut : (a b x y z : ℤ) → within (max_z a x) (min_z b y) z ≡ (within a b z && within x y z)
unfolding within
within-cut a b x y z = ap₂ ◌&&◌ (le-max a x z) (le-min b y z) ∙ and-swap (le_z a z) (le_z x z) (le_z z b) (le_z z y)

-- ---- two boxes in one dimension
-- a test that passes exactly where another fails: b − a = c − d − 1
pub opposite : (a b c d : ℤ) → up a + dn b + (up c + dn d) ≡ suc (up b + dn a + (up d + dn c)) → le_z a b ≡ not (le_z c d)
opposite a b c d h = by (le_z c d) refl
  where
    by : (t : Bool) → le_z c d ≡ t → le_z a b ≡ not t
    by true e = omega ints
    by false e = omega ints

-- a box of size l starts at p + t, another of size l' at q + t': p is in the interval, grown by g at each end, exactly when neither
-- starts at or past the other's end plus g
pub interval : (q t' l' t l g p : ℤ)
    → within (q +ℤ t' -ℤ t -ℤ l +ℤ pos 1 -ℤ g) (q +ℤ t' +ℤ l' -ℤ t -ℤ pos 1 +ℤ g) p
    ≡ not (le_z (q +ℤ t' +ℤ l' +ℤ g) (p +ℤ t) || le_z (p +ℤ t +ℤ l +ℤ g) (q +ℤ t'))
unfolding within
interval q t' l' t l g p =
    ap₂ ◌&&◌
    (opposite (q +ℤ t' -ℤ t -ℤ l +ℤ pos 1 -ℤ g) p (p +ℤ t +ℤ l +ℤ g) (q +ℤ t')
    (omega (arith, lin (v q ⊕ v t' ⊖ v t ⊖ v l ⊕ v (pos 1) ⊖ v g), lin (v p ⊕ v t ⊕ v l ⊕ v g), lin (v q ⊕ v t'))))
    (opposite p (q +ℤ t' +ℤ l' -ℤ t -ℤ pos 1 +ℤ g) (q +ℤ t' +ℤ l' +ℤ g) (p +ℤ t)
    (omega (arith, lin (v q ⊕ v t' ⊕ v l' ⊖ v t ⊖ v (pos 1) ⊕ v g), lin (v q ⊕ v t' ⊕ v l' ⊕ v g), lin (v p ⊕ v t))))
    ∙ nor (le_z (p +ℤ t +ℤ l +ℤ g) (q +ℤ t')) (le_z (q +ℤ t' +ℤ l' +ℤ g) (p +ℤ t))
    ∙ ap not (or_comm (le_z (p +ℤ t +ℤ l +ℤ g) (q +ℤ t')) (le_z (q +ℤ t' +ℤ l' +ℤ g) (p +ℤ t)))
