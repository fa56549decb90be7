-- Laws of sums and products over the numbers below n, and of numbers by digits, place d with the base w d: the digits of a number make it,
-- and a number made of digits below their bases has these digits. Assumes nothing.
use mathlib.Core.Path.{◌≡◌, refl, sym, ap, ap₂, ◌∙◌}
use mathlib.Core.Logic.{◌⊎◌, inl, inr, ⊎_elim}
use Prim.Native.Nat.{ℕ, zero, suc, ◌+◌, ◌*◌, ◌/◌, ◌%◌, ◌≤◌, ◌<◌}
use native.Mathlib.Nat.{not-suc-le-zero, le_refl, le_trans, suc-mul, mul-zero, mul-suc, add-mul, mul_comm, mul_assoc, mul_right_comm}
use native.Mathlib.Nat.{zero-mul, mul-le-mul, mul-le-mul_right, one-le-mul, le-mul_of_pos_right, le_of_suc-le-suc, eq-or-lt_of_le}
use native.Mathlib.Nat.{mod-lt, mod-eq_of_lt, mod-add-div', div-eq_of_lt, add-mul-div_right, add-mul-mod_self_right}
use native.Mathlib.Numerals.{add-one}
use native.Mathlib.Omega.{arith}
use Rattle.integers.specs.Below.{sum_below, product_below}
use Rattle.integers.specs.Digits.{digit, number_of}
use Rattle.integers.proofs.Below.{last_or}

-- ---- one more turn of a loop
pub sum-zero : (f : ℕ → ℕ) → sum_below 0 f ≡ 0
unfolding sum_below
sum-zero f = refl

pub sum_more : (n : ℕ) (f : ℕ → ℕ) → sum_below (n + 1) f ≡ sum_below n f + f n
unfolding sum_below
sum_more n f = rw add-one

pub product-zero : (f : ℕ → ℕ) → product_below 0 f ≡ 1
unfolding product_below
product-zero f = refl

pub product-more : (n : ℕ) (f : ℕ → ℕ) → product_below (n + 1) f ≡ product_below n f * f n
unfolding product_below
product-more n f = rw add-one

-- ---- functions that agree below n
pub sum_same : {n : ℕ} {f g : ℕ → ℕ} → ((i : ℕ) → i < n → f i ≡ g i) → sum_below n f ≡ sum_below n g
unfolding sum_below
sum_same {n = zero} h = refl
sum_same {n = suc n} h = ap₂ ◌+◌ (sum_same {n = n} (λ i l. h i (omega arith))) (h n (omega arith))

pub product-same : {n : ℕ} {f g : ℕ → ℕ} → ((i : ℕ) → i < n → f i ≡ g i) → product_below n f ≡ product_below n g
unfolding product_below
product-same {n = zero} h = refl
product-same {n = suc n} h = ap₂ ◌*◌ (product-same {n = n} (λ i l. h i (omega arith))) (h n (omega arith))

-- ---- a sum cut in parts
sum-add : (n a : ℕ) (g : ℕ → ℕ) → sum_below (n + a) g ≡ sum_below n g + sum_below a (λ m. g (n + m))
unfolding sum_below
sum-add n zero g = let q : n + 0 ≡ n = omega arith in ap (λ (x : ℕ). sum_below x g) q ∙ omega arith
sum-add n (suc a) g =
    let q : n + suc a ≡ suc (n + a) = omega arith in
    ap (λ (x : ℕ). sum_below x g) q ∙ omega (arith, sum-add n a g)

pub sum-product : (a b : ℕ) (g : ℕ → ℕ) → sum_below (a * b) g ≡ sum_below b (λ c. sum_below a (λ m. g (m + c * a)))
unfolding sum_below
sum-product a zero g = ap (λ (x : ℕ). sum_below x g) (mul-zero a)
sum-product a (suc b) g =
    ap (λ (x : ℕ). sum_below x g) (mul-suc a b) ∙ sum-add (a * b) a g
    ∙ ap₂ ◌+◌ (sum-product a b g) (sum_same {n = a} (λ m l. ap g (omega (arith, mul_comm a b))))

-- ---- products
pub product_each : {n : ℕ} {f g : ℕ → ℕ} → ((i : ℕ) → i < n → f i ≤ g i) → product_below n f ≤ product_below n g
unfolding product_below
product_each {n = zero} h = le_refl 1
product_each {n = suc n} h = mul-le-mul (product_each {n = n} (λ i l. h i (omega arith))) (h n (omega arith))

-- of numbers from 1 up
module _ {w : ℕ → ℕ} where
  pub product-some : {k : ℕ} → ((d : ℕ) → d < k → 1 ≤ w d) → 1 ≤ product_below k w
  unfolding product_below
  product-some {k = zero} h = le_refl 1
  product-some {k = suc k} h = one-le-mul (product-some {k = k} (λ d l. h d (omega arith))) (h k (omega arith))

  pub product_le : {j k : ℕ} → ((d : ℕ) → d < k → 1 ≤ w d) → j ≤ k → product_below j w ≤ product_below k w
  unfolding product_below
  product_le {j} {k = zero} h l = let q : j ≡ 0 = omega arith in rw q (le_refl _)
  product_le {j} {k = suc k} h l =
      ⊎_elim (λ e. rw e (le_refl _))
      (λ less. le_trans (product_le {j = j} {k = k} (λ d m. h d (omega arith)) (omega arith)) (le-mul_of_pos_right _ (h k (omega arith))))
      (last_or {i = j} {n = suc k} (omega arith))

-- of any numbers: more factors give 0, or no less
pub product-past : {j : ℕ} (k : ℕ) (w : ℕ → ℕ) → j ≤ k → (product_below k w ≡ 0) ⊎ (product_below j w ≤ product_below k w)
unfolding product_below
product-past {j} zero w h = let e : j ≡ 0 = omega arith in inr (rw e (le_refl 1))
product-past {j} (suc k) w h = ⊎_elim (λ e. inr (rw e (le_refl _))) (λ l. step (w k) (product-past k w (le_of_suc-le-suc l))) (eq-or-lt_of_le h)
  where
    step : (n : ℕ) → (product_below k w ≡ 0) ⊎ (product_below j w ≤ product_below k w)
        → (product_below k w * n ≡ 0) ⊎ (product_below j w ≤ product_below k w * n)
    step zero x = inl (mul-zero (product_below k w))
    step (suc n) (inl e) = inl (rw e (zero-mul (suc n)))
    step (suc n) (inr l) = inr (le_trans l (le-mul_of_pos_right (product_below k w) (omega arith)))

-- ---- the digits of a number
pub digit-same : {w w' : ℕ → ℕ} (m : ℕ) {d : ℕ} → ((e : ℕ) → e ≤ d → w e ≡ w' e) → digit w m d ≡ digit w' m d
unfolding digit
digit-same m {d} h = ap₂ (λ (p b : ℕ). m / p % b) (product-same {n = d} (λ e l. h e (omega arith))) (h d (le_refl d))

pub digit-below : (w : ℕ → ℕ) (m d : ℕ) → 1 ≤ w d → digit w m d < w d
unfolding digit
digit-below w m d h = mod-lt (m / product_below d w) h

pub digit_low : {w : ℕ → ℕ} (m c : ℕ) {k d : ℕ} → d < k → ((e : ℕ) → e < k → 1 ≤ w e) → digit w (m + c * product_below k w) d ≡ digit w m d
unfolding digit product_below
digit_low m c {k = zero} l h = absurd (not-suc-le-zero l)
digit_low {w} m c {k = suc k} {d} l h =
    ap (λ (x : ℕ). digit w (m + x) d) turn
    ∙ ⊎_elim here (λ less. digit_low {w = w} m (c * w k) less (λ e m. h e (omega arith))) (last_or l)
  where
    p : ℕ
    p = product_below k w

    turn : c * (p * w k) ≡ c * w k * p
    turn = sym (mul_assoc c p (w k)) ∙ mul_right_comm c p (w k)

    some : 1 ≤ p
    some = product-some {w = w} {k = k} (λ e m. h e (omega arith))

    at-k : digit w (m + c * w k * p) k ≡ digit w m k
    at-k = ap (λ (x : ℕ). x % w k) (add-mul-div_right m (c * w k) some) ∙ add-mul-mod_self_right (m / p) c (w k)

    here : d ≡ k → digit w (m + c * w k * p) d ≡ digit w m d
    here e = rw e at-k

pub digit-top : (w : ℕ → ℕ) (k : ℕ) {m c : ℕ} → 1 ≤ product_below k w → m < product_below k w → c < w k → digit w (m + c * product_below k w) k ≡ c
unfolding digit
digit-top w k {m} {c} some l h =
    let q : (m + c * product_below k w) / product_below k w ≡ c = omega (arith, add-mul-div_right m c some, div-eq_of_lt l) in
    ap (λ (x : ℕ). x % w k) q ∙ mod-eq_of_lt h

-- ---- the number of the digits
-- one more place
place-below : {a b v q : ℕ} → v < a → q < b → v + q * a < a * b
place-below {a} {b} {q} l h = omega (arith, mul-le-mul_right a h, suc-mul q a, mul_comm b a)

place-mod : (m : ℕ) {a b : ℕ} → 1 ≤ a → 1 ≤ b → m % (a * b) ≡ m % a + m / a % b * a
place-mod m {a} {b} ha hb =
    ap (λ (x : ℕ). x % (a * b)) parts ∙ add-mul-mod_self_right r (m / a / b) (a * b)
    ∙ mod-eq_of_lt (place-below (mod-lt m ha) (mod-lt (m / a) hb))
  where
    r : ℕ
    r = m % a + m / a % b * a

    spread : (x y : ℕ) → (x + y * b) * a ≡ x * a + y * (a * b)
    spread x y = omega (arith, add-mul x (y * b) a, mul_right_comm y b a, mul_assoc y a b)

    parts : m ≡ r + m / a / b * (a * b)
    parts = omega (arith, mod-add-div' m a, ap (λ (x : ℕ). x * a) (mod-add-div' (m / a) b), spread (m / a % b) (m / a / b))

number-mod : {w : ℕ → ℕ} (m : ℕ) {k : ℕ} → ((d : ℕ) → d < k → 1 ≤ w d) → number_of k w (digit w m) ≡ m % product_below k w
unfolding number_of sum_below product_below digit
number-mod m {k = zero} h = omega arith
number-mod {w} m {k = suc k} h =
    ap (λ (x : ℕ). x + digit w m k * product_below k w) (number-mod {w = w} m {k = k} before)
    ∙ sym (place-mod m (product-some before) (h k (omega arith)))
  where
    before : (d : ℕ) → d < k → 1 ≤ w d
    before d l = h d (omega arith)

pub digits_number : {w : ℕ → ℕ} {m k : ℕ} → ((d : ℕ) → d < k → 1 ≤ w d) → m < product_below k w → number_of k w (digit w m) ≡ m
digits_number {m} h l = number-mod m h ∙ mod-eq_of_lt l

pub number-below : {k : ℕ} {w c : ℕ → ℕ} → ((d : ℕ) → d < k → c d < w d) → number_of k w c < product_below k w
unfolding number_of sum_below product_below
number-below {k = zero} h = le_refl 1
number-below {k = suc k} h = place-below (number-below {k = k} (λ d l. h d (omega arith))) (h k (omega arith))

-- a first digit that is more by x makes a number that is more by x
pub number-first : (w c e : ℕ → ℕ) (x : ℕ) {k : ℕ} → 1 ≤ k → e 0 ≡ c 0 + x → ((d : ℕ) → suc d < k → e (suc d) ≡ c (suc d))
    → number_of k w e ≡ number_of k w c + x
unfolding number_of sum_below
number-first w c e x {k = zero} some first rest = absurd (not-suc-le-zero some)
number-first w c e x {k = suc zero} some first rest = simp product-zero (omega arith)
number-first w c e x {k = suc (suc k)} some first rest =
    let before = number-first w c e x {k = suc k} (omega arith) first (λ d l. rest d (omega arith)) in
    omega (arith, before, ap (λ (y : ℕ). y * product_below (suc k) w) (rest k (omega arith)))

pub number_digits : {k : ℕ} {w c : ℕ → ℕ} → ((d : ℕ) → d < k → c d < w d) → (d : ℕ) → d < k → digit w (number_of k w c) d ≡ c d
unfolding number_of sum_below
number_digits {k = zero} h d l = absurd (not-suc-le-zero l)
number_digits {k = suc k} {w} {c} h d l = ⊎_elim here (λ m. digit_low (number_of k w c) (c k) m some ∙ number_digits less d m) (last_or l)
  where
    some : (e : ℕ) → e < k → 1 ≤ w e
    some e m = omega (arith, h e (omega arith))

    less : (e : ℕ) → e < k → c e < w e
    less e m = h e (omega arith)

    here : d ≡ k → digit w (number_of k w c + c k * product_below k w) d ≡ c d
    here e = rw e (digit-top w k (product-some some) (number-below less) (h k (omega arith)))
