-- Laws of the tests over the numbers below n: what a loop needs, what a passed test says, and a test from its cases;
-- sums; the first and the last number that passes; the first value that is something. Assumes nothing.
use mathlib.Core.Path.{◌≡◌, refl, sym, ap, ap₂, ◌∙◌, subst}
use mathlib.Core.Logic.{◌⊎◌, inl, inr, ⊎_elim}
use mathlib.Core.Bool.{Bool, true, false, not, cond, ◌&&◌, ◌||◌, or_comm}
use mathlib.Core.Option.{Option, none, some}
use Prim.Native.Nat.{ℕ, zero, suc, ◌+◌, ◌≤◌, ◌<◌, zero-le}
use native.Mathlib.Nat.{not-suc-le-zero, eq-or-lt_of_le, le_of_suc-le-suc, add-le-add}
use native.Mathlib.Numerals.{add-one}
use native.Mathlib.Omega.{arith}
use lib.Dec.{eqb, ltb}
use borrow.Author.Tests.{ltb-true, ltb-false, eqb-true, eqb-false}
use Rattle.integers.specs.Below.{all_below, any_below, all_up_to, any_up_to, UpTo, sum_below, least_below, greatest_below, first_some}
use Rattle.integers.proofs.Booleans.{clash, decide, fails, and-true, true-and, or-true, or_left, or_right, nor}

-- ---- numbers, one of two cases
pub same_or : (a b : ℕ) → (a ≡ b) ⊎ (a ≡ b → ⊥)
same_or a b = ⊎_elim (λ e. inl (eqb-true a b e)) (λ e. inr (eqb-false a b e)) (decide (eqb a b))

-- a fact of each number: of i, and of the others
pub here-and-else : (i : ℕ) (P : ℕ → Type 0) → P i → ((q : ℕ) → (q ≡ i → ⊥) → P q) → (q : ℕ) → P q
here-and-else i P here other q = ⊎_elim (λ e. subst P (sym e) here) (λ ne. other q ne) (same_or q i)

pub below_or : (a b : ℕ) → (a < b) ⊎ (b ≤ a)
below_or a b = ⊎_elim (λ e. inl (ltb-true a b e)) (λ e. inr (ltb-false a b e)) (decide (ltb a b))

-- a number below n + 1 is n or below n
pub last_or : {i n : ℕ} → i < suc n → (i ≡ n) ⊎ (i < n)
last_or h = eq-or-lt_of_le (le_of_suc-le-suc h)

-- ---- one more turn of a loop
pub all-zero : (f : ℕ → Bool) → all_below 0 f ≡ true
unfolding all_below
all-zero f = refl

pub all_more : (n : ℕ) (f : ℕ → Bool) → all_below (n + 1) f ≡ (all_below n f && f n)
unfolding all_below
all_more n f = rw add-one

pub any-zero : (f : ℕ → Bool) → any_below 0 f ≡ false
unfolding any_below
any-zero f = refl

pub any-more : (n : ℕ) (f : ℕ → Bool) → any_below (n + 1) f ≡ (any_below n f || f n)
unfolding any_below
any-more n f = rw add-one

-- numbers that do not pass make no difference, after n and after a test of n
pub any-past : {n m : ℕ} (f : ℕ → Bool) → n ≤ m → ((i : ℕ) → n ≤ i → i < m → f i ≡ false) → any_below m f ≡ any_below n f
unfolding any_below
any-past {n} {m = zero} f h g = let e : n ≡ 0 = omega arith in ap (λ (x : ℕ). any_below x f) (sym e)
any-past {n} {m = suc m} f h g =
    ⊎_elim (λ e. ap (λ (x : ℕ). any_below x f) (sym e))
    (λ l. ap₂ ◌||◌ (any-past {n = n} {m = m} f (le_of_suc-le-suc l) (λ i p q. g i p (omega arith))) (g m (le_of_suc-le-suc l) (omega arith))
    ∙ or_comm (any_below n f) false) (eq-or-lt_of_le h)

pub any_next : {n m : ℕ} (f : ℕ → Bool) → n < m → ((i : ℕ) → n < i → i < m → f i ≡ false) → any_below m f ≡ (any_below n f || f n)
any_next {n} f h g = any-past {n = n + 1} f (omega arith) (λ i p q. g i (omega arith) q) ∙ any-more n f

-- ---- what a passed test says, and a test from its cases
pub all-at : {n : ℕ} (f : ℕ → Bool) → all_below n f ≡ true → (i : ℕ) → i < n → f i ≡ true
unfolding all_below
all-at {n = zero} f e i h = absurd (not-suc-le-zero h)
all-at {n = suc n} f e i h =
    let w : (all_below n f ≡ true) × (f n ≡ true) = and-true e in
    ⊎_elim (λ p. ap f p ∙ w.1) (λ l. all-at f w.0 i l) (last_or h)

pub at_all : {n : ℕ} {f : ℕ → Bool} → ((i : ℕ) → i < n → f i ≡ true) → all_below n f ≡ true
unfolding all_below
at_all {n = zero} h = refl
at_all {n = suc n} h = true-and (at_all {n = n} (λ i l. h i (omega arith))) (h n (omega arith))

pub any_at : {n : ℕ} {f : ℕ → Bool} → any_below n f ≡ true → (i : ℕ) × (i < n) × (f i ≡ true)
unfolding any_below
any_at {n = zero} e = clash e refl
any_at {n = suc n} {f} e =
    ⊎_elim (λ u. let w = any_at {n = n} {f = f} u in (w.0, omega (arith, w.1), w.2)) (λ u. (n, omega arith, u)) (or-true e)

pub any-true : {n : ℕ} (f : ℕ → Bool) (i : ℕ) → i < n → f i ≡ true → any_below n f ≡ true
unfolding any_below
any-true {n = zero} f i h e = absurd (not-suc-le-zero h)
any-true {n = suc n} f i h e = ⊎_elim (λ p. or_right (any_below n f) (ap f (sym p) ∙ e)) (λ l. or_left _ (any-true f i l e)) (last_or h)

-- none passes
abbrev pub NoneBelow : ℕ → (ℕ → Bool) → Type 0
NoneBelow n f = (i : ℕ) → i < n → f i ≡ false

pub any_false : {n : ℕ} (f : ℕ → Bool) → any_below n f ≡ false → NoneBelow n f
any_false f e i h = fails (λ t. clash (any-true f i h t) e)

pub false-any : {n : ℕ} {f : ℕ → Bool} → NoneBelow n f → any_below n f ≡ false
false-any h = fails (λ t. let w = any_at t in clash w.2 (h w.0 w.1))

-- one fails: a loop over all is left early
pub all-false : {n : ℕ} (f : ℕ → Bool) (i : ℕ) → i < n → f i ≡ false → all_below n f ≡ false
all-false f i h e = fails (λ t. clash (all-at f t i h) e)

-- ---- two tests that agree below n
pub all_same : {n : ℕ} {f g : ℕ → Bool} → ((i : ℕ) → i < n → f i ≡ g i) → all_below n f ≡ all_below n g
unfolding all_below
all_same {n = zero} h = refl
all_same {n = suc n} h = ap₂ ◌&&◌ (all_same {n = n} (λ i l. h i (omega arith))) (h n (omega arith))

pub any_same : {n : ℕ} {f g : ℕ → Bool} → ((i : ℕ) → i < n → f i ≡ g i) → any_below n f ≡ any_below n g
unfolding any_below
any_same {n = zero} h = refl
any_same {n = suc n} h = ap₂ ◌||◌ (any_same {n = n} (λ i l. h i (omega arith))) (h n (omega arith))

-- every test fails exactly when none passes
pub all-not : (n : ℕ) (f : ℕ → Bool) → all_below n (λ i. not (f i)) ≡ not (any_below n f)
unfolding all_below any_below
all-not zero f = refl
all-not (suc n) f = ap (λ (b : Bool). b && not (f n)) (all-not n f) ∙ nor (any_below n f) (f n)

-- ---- the same for the numbers 1 to n
-- where numbers from 0 are counted
pub up_next : {n m : ℕ} → m < n → UpTo n (m + 1)
up_next l = record { from = omega arith; upto = omega arith }

pub upto-at : {n : ℕ} (f : ℕ → Bool) → all_up_to n f ≡ true → (i : ℕ) → 1 ≤ i → i ≤ n → f i ≡ true
upto-at f e zero h k = absurd (not-suc-le-zero h)
upto-at f e (suc m) h k = all-at (λ d. f (suc d)) e m k

pub at-upto : {n : ℕ} (f : ℕ → Bool) → ((i : ℕ) → 1 ≤ i → i ≤ n → f i ≡ true) → all_up_to n f ≡ true
at-upto f h = at_all (λ m l. h (suc m) (omega arith) l)

pub some-upto : {n : ℕ} (f : ℕ → Bool) → any_up_to n f ≡ true → (i : ℕ) × (1 ≤ i) × (i ≤ n) × (f i ≡ true)
some-upto f e = let w = any_at e in (suc w.0, omega arith, w.1, w.2)

pub upto-some : {n : ℕ} (f : ℕ → Bool) (i : ℕ) → 1 ≤ i → i ≤ n → f i ≡ true → any_up_to n f ≡ true
upto-some f zero h k e = absurd (not-suc-le-zero h)
upto-some f (suc m) h k e = any-true (λ d. f (suc d)) m k e

-- ---- sums
pub sum-le : {n : ℕ} {f g : ℕ → ℕ} → ((i : ℕ) → i < n → f i ≤ g i) → sum_below n f ≤ sum_below n g
unfolding sum_below
sum-le {n = zero} h = zero-le
sum-le {n = suc n} h = add-le-add (sum-le {n = n} (λ i l. h i (omega arith))) (h n (omega arith))

pub sum_lt : {n : ℕ} {f g : ℕ → ℕ} → ((i : ℕ) → i < n → f i ≤ g i) → (j : ℕ) → j < n → f j < g j → sum_below n f < sum_below n g
unfolding sum_below
sum_lt {n = zero} h j l s = absurd (not-suc-le-zero l)
sum_lt {n = suc n} {f} {g} h j l s =
    let le : sum_below n f ≤ sum_below n g = sum-le {n = n} (λ i m. h i (omega arith)) in
    ⊎_elim (λ e. omega (arith, subst (λ (i : ℕ). f i < g i) e s))
    (λ k. omega (arith, sum_lt {n = n} {f = f} {g = g} (λ i m. h i (omega arith)) j k s, h n (omega arith))) (last_or l)

-- ---- the first number that passes
-- none below n, and not n: none below n + 1
pub none_more : {n : ℕ} (f : ℕ → Bool) → NoneBelow n f → f n ≡ false → NoneBelow (suc n) f
none_more f g e i h = ⊎_elim (λ p. ap f p ∙ e) (λ l. g i l) (last_or h)

pub record Least (n : ℕ) (f : ℕ → Bool) : Type 0 where
  pub at : ℕ
  pub is : least_below n f ≡ some at
  pub below : at < n
  pub passes : f at ≡ true
  pub first : (i : ℕ) → f i ≡ true → at ≤ i

pub least-view : (n : ℕ) (f : ℕ → Bool) → Least n f ⊎ ((least_below n f ≡ none) × NoneBelow n f)
unfolding least_below
least-view zero f = inr (refl, λ i h. absurd (not-suc-le-zero h))
least-view (suc n) f = step (least-view n f) (f n) refl
  where
    next : Bool → Option ℕ → Option ℕ
    next x o = elim o [ some c ↦ some c | none ↦ cond x (some n) none ]

    step : Least n f ⊎ ((least_below n f ≡ none) × NoneBelow n f) → (x : Bool) → f n ≡ x
        → Least (suc n) f ⊎ ((next (f n) (least_below n f) ≡ none) × NoneBelow (suc n) f)
    step (inl w) x e = inl record {
      at = w.at;
      is = ap (next (f n)) w.is;
      below = omega (arith, w.below);
      passes = w.passes;
      first = w.first;
    }
    step (inr w) true e = inl record {
      at = n;
      is = ap₂ next e w.0;
      below = omega arith;
      passes = e;
      first = λ i t. ⊎_elim (λ l. clash t (w.1 i l)) (λ l. l) (below_or i n);
    }
    step (inr w) false e = inr (ap₂ next e w.0, none_more f w.1 e)

-- ---- the last
pub record Greatest (n : ℕ) (f : ℕ → Bool) : Type 0 where
  pub at : ℕ
  pub is : greatest_below n f ≡ some at
  pub below : at < n
  pub passes : f at ≡ true
  pub last : (i : ℕ) → i < n → f i ≡ true → i ≤ at

pub greatest-view : (n : ℕ) (f : ℕ → Bool) → Greatest n f ⊎ ((greatest_below n f ≡ none) × NoneBelow n f)
unfolding greatest_below
greatest-view zero f = inr (refl, λ i h. absurd (not-suc-le-zero h))
greatest-view (suc n) f = step (greatest-view n f) (f n) refl
  where
    next : Bool → Option ℕ → Option ℕ
    next x o = cond x (some n) o

    step : Greatest n f ⊎ ((greatest_below n f ≡ none) × NoneBelow n f) → (x : Bool) → f n ≡ x
        → Greatest (suc n) f ⊎ ((next (f n) (greatest_below n f) ≡ none) × NoneBelow (suc n) f)
    step w true e = inl record {
      at = n;
      is = ap (λ (x : Bool). next x (greatest_below n f)) e;
      below = omega arith;
      passes = e;
      last = λ i h t. le_of_suc-le-suc h;
    }
    step (inl w) false e = inl record {
      at = w.at;
      is = ap₂ next e w.is;
      below = omega (arith, w.below);
      passes = w.passes;
      last = λ i h t. ⊎_elim (λ p. clash (ap f (sym p) ∙ t) e) (λ l. w.last i l t) (last_or h);
    }
    step (inr w) false e = inr (ap₂ next e w.0, none_more f w.1 e)

-- ---- the first that is something
pub record First {ℓ} {A : Type ℓ} (n : ℕ) (f : ℕ → Option A) : Type ℓ where
  pub value : A
  pub is : first_some n f ≡ some value
  pub at : ℕ
  pub below : at < n
  pub there : f at ≡ some value
  pub before : (i : ℕ) → i < at → f i ≡ none

pub first-view {ℓ} : {A : Type ℓ} (n : ℕ) (f : ℕ → Option A) → First n f ⊎ ((first_some n f ≡ none) × ((i : ℕ) → i < n → f i ≡ none))
unfolding first_some
first-view zero f = inr (refl, λ i h. absurd (not-suc-le-zero h))
first-view {A = A} (suc n) f = step (first-view n f) (f n) refl
  where
    next : Option A → Option A → Option A
    next o l = elim o [ some x ↦ some x | none ↦ l ]

    step : First n f ⊎ ((first_some n f ≡ none) × ((i : ℕ) → i < n → f i ≡ none)) → (l : Option A) → f n ≡ l
        → First (suc n) f ⊎ ((next (first_some n f) (f n) ≡ none) × ((i : ℕ) → i < suc n → f i ≡ none))
    step (inl w) l e = inl record {
      value = w.value;
      is = ap (λ (o : Option A). next o (f n)) w.is;
      at = w.at;
      below = omega (arith, w.below);
      there = w.there;
      before = w.before;
    }
    step (inr w) (some x) e = inl record {
      value = x;
      is = ap₂ next w.0 e;
      at = n;
      below = omega arith;
      there = e;
      before = w.1;
    }
    step (inr w) none e = inr (ap₂ next w.0 e, λ i h. ⊎_elim (λ p. ap f p ∙ e) (λ l. w.1 i l) (last_or h))
