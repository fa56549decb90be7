-- Document 02, T-03, the figure: rounding half up gives the nearest whole number, of two that are as near the greater (`half-up-nearest`,
-- `figure-nearest`), and there is only one such (`nearest-unique`); of a part it is at most 1000 (`figure-upto`). Assumes nothing.
use mathlib.Core.Path.{◌≡◌}
use mathlib.Core.Logic.{⊎_elim}
use Prim.Native.Nat.{ℕ, ◌+◌, ◌*◌, ◌/◌, ◌≤◌, ◌<◌}
use native.Mathlib.Nat.{le_antisymm, le_refl, suc-mul, mul_left_comm, mul-le-mul_right, div-mul-le_self, lt-div-mul-add}
use native.Mathlib.Omega.{arith}
use Rattle.integers.proofs.Below.{below_or}
use Rattle.sheet.specs.Fill.{distance, Nearest, half_up, permille}

-- p, a multiple of n, is at most half of n above a, and less than half below; so of the other multiples
-- those before it are no nearer to a, and those after it farther
module _ (a n p q : ℕ) (above : 2 * p ≤ 2 * a + n) (below : 2 * a + n < 2 * p + 2 * n) where
  before : q + n ≤ p → distance p a ≤ distance q a
  unfolding distance
  before h = omega arith

  after : p + n ≤ q → distance p a < distance q a
  unfolding distance
  after h = omega arith

next_multiple : (n : ℕ) {f g : ℕ} → f < g → f * n + n ≤ g * n
next_multiple n {f} h = omega (arith, mul-le-mul_right n h, suc-mul f n)

half-up-ends : (a n : ℕ) → 1 ≤ n → (2 * (half_up a n * n) ≤ 2 * a + n) × (2 * a + n < 2 * (half_up a n * n) + 2 * n)
unfolding half_up
half-up-ends a n h =
    let f = (2 * a + n) / (2 * n) in
    let l = div-mul-le_self (2 * a + n) (2 * n) in
    let u : 2 * a + n < f * (2 * n) + 2 * n = lt-div-mul-add (omega arith) in
    let e = mul_left_comm f 2 n in
    (omega arith, omega arith)

-- ROUNDED HALF UP is nearest
pub half-up-nearest : (a n : ℕ) → 1 ≤ n → Nearest a n (half_up a n)
half-up-nearest a n h = record { nearest = nearest; greater = greater }
  where
    f : ℕ
    f = half_up a n

    ends : (2 * (f * n) ≤ 2 * a + n) × (2 * a + n < 2 * (f * n) + 2 * n)
    ends = half-up-ends a n h

    farther : (g : ℕ) → f < g → distance (f * n) a < distance (g * n) a
    farther g l = after a n (f * n) (g * n) ends.0 ends.1 (next_multiple n l)

    nearest : (g : ℕ) → distance (f * n) a ≤ distance (g * n) a
    nearest g =
        ⊎_elim (λ l. before a n (f * n) (g * n) ends.0 ends.1 (next_multiple n l))
        (λ l. ⊎_elim (λ m. omega (arith, farther g m)) (λ m. let e : f ≡ g = le_antisymm l m in rw e (le_refl _)) (below_or f g))
        (below_or g f)

    greater : (g : ℕ) → distance (g * n) a ≤ distance (f * n) a → g ≤ f
    greater g k = ⊎_elim (λ l. absurd (omega (arith, farther g l))) (λ l. l) (below_or f g)

pub nearest-unique : {a n f g : ℕ} → Nearest a n f → Nearest a n g → f ≡ g
nearest-unique {f} {g} x y = le_antisymm (y.greater f (x.nearest g)) (x.greater g (y.nearest f))

-- THE FIGURE
pub figure-nearest : (c n : ℕ) → 1 ≤ n → Nearest (1000 * c) n (permille c n)
unfolding permille
figure-nearest c n h = half-up-nearest (1000 * c) n h

pub figure-upto : {c n : ℕ} → c ≤ n → 1 ≤ n → permille c n ≤ 1000
unfolding permille
figure-upto {c} {n} l h =
    ⊎_elim (λ k. absurd (omega (arith, (half-up-ends (1000 * c) n h).0, mul-le-mul_right n k))) (λ k. k) (below_or 1000 (half_up (1000 * c) n))
