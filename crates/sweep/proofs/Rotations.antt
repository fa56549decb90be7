-- The rotation's laws: it stays below the number of axes, and for d below k and k up to that number it takes each of the k
-- dimensions once, dimension d first. They rest on the definition of `rotation` alone.
-- Assumes nothing.
use mathlib.Core.Path.{◌≡◌, ap, ◌∙◌}
use mathlib.Core.Logic.{◌⊎◌, inl, inr, ⊎_elim}
use mathlib.Core.Bool.{Bool, true, cond, ◌&&◌}
use Prim.Native.Nat.{ℕ, ◌+◌, ◌-◌, ◌%◌, ◌≤◌, ◌<◌}
use native.Mathlib.Omega.{arith}
use native.Mathlib.Nat.{mod-eq_of_lt, mod-eq-sub-mod, mod-lt}
use native.Mathlib.Decide.{dec_le, dec_lt}
use lib.Dec.{leb, ltb}
use borrow.Author.Tests.{le-leb, lt-ltb, leb-true, ltb-true}
use Rattle.integers.proofs.Booleans.{fails, and-true}
use Rattle.integers.proofs.Below.{below_or}
use Rattle.points.specs.Area.{coordinates}
use Rattle.sweep.specs.Rotation.{rotation}
use Rattle.sweep.specs.Theorem.{Order}

-- the tests of the definition
rotation-in : {k d j : ℕ} → k ≤ coordinates → d < k → j < k → rotation k d j ≡ (j + d) % k
unfolding rotation
rotation-in {k} {d} {j} a h g = rw (le-leb k coordinates a, lt-ltb d k h, lt-ltb j k g)

pub rotation-out : (k d j : ℕ) → ((k ≤ coordinates) × (d < k) × (j < k) → ⊥) → rotation k d j ≡ 0
unfolding rotation
rotation-out k d j f = ap (λ (t : Bool). cond t ((j + d) % k) 0) (fails (λ e.
    let w : ((leb k coordinates && ltb d k) ≡ true) × (ltb j k ≡ true) = and-true e in
    let u : (leb k coordinates ≡ true) × (ltb d k ≡ true) = and-true w.0 in
    f (leb-true k coordinates u.0, ltb-true d k u.1, ltb-true j k w.1)))

pub rotation_below : (k d j : ℕ) → rotation k d j < coordinates
rotation_below k d j = by (dec_le k coordinates) (dec_lt d k) (dec_lt j k)
  where
    by : Dec (k ≤ coordinates) → Dec (d < k) → Dec (j < k) → rotation k d j < coordinates
    by (yes a) (yes h) (yes g) = omega (arith, rotation-in a h g, mod-lt (j + d) {m = k} (omega arith))
    by (no a) h g = omega (arith, rotation-out k d j (λ w. a w.0))
    by (yes a) (no h) g = omega (arith, rotation-out k d j (λ w. h w.1))
    by (yes a) (yes h) (no g) = omega (arith, rotation-out k d j (λ w. g w.2))

-- ---- the rotation of dimension d is an order of the k dimensions
module _ {k d : ℕ} (a : k ≤ coordinates) (h : d < k) where
  -- j + d, or k less where that is not below k
  pub rotation-sum : {j : ℕ} → j < k → j + d < k → rotation k d j ≡ j + d
  rotation-sum g t = rotation-in a h g ∙ mod-eq_of_lt t

  pub rotation-rest : {j : ℕ} → j < k → k ≤ j + d → rotation k d j ≡ j + d - k
  rotation-rest {j} g t = let u : j + d - k < k = omega arith in rotation-in a h g ∙ mod-eq-sub-mod t ∙ mod-eq_of_lt u

  rotation-cases : (j : ℕ) → j < k → ((j + d < k) × (rotation k d j ≡ j + d)) ⊎ ((k ≤ j + d) × (rotation k d j ≡ j + d - k))
  rotation-cases j g = ⊎_elim (λ (t : j + d < k). inl (t, rotation-sum g t)) (λ (t : k ≤ j + d). inr (t, rotation-rest g t)) (below_or (j + d) k)

  pub rotation-first : rotation k d 0 ≡ d
  rotation-first = let g : 0 < k = omega arith in ⊎_elim (λ w. omega (arith, w.1)) (λ w. omega (arith, w.1)) (rotation-cases 0 g)

  once : (m n : ℕ) → m < k → n < k → rotation k d m ≡ rotation k d n → m ≡ n
  once m n u w e =
      ⊎_elim
      (λ x. ⊎_elim (λ y. omega (arith, x.1, y.1)) (λ y. omega (arith, x.1, y.1)) (rotation-cases n w))
      (λ x. ⊎_elim (λ y. omega (arith, x.1, y.1)) (λ y. omega (arith, x.1, y.1)) (rotation-cases n w))
      (rotation-cases m u)

  every : (i : ℕ) → i < k → (m : ℕ) × (m < k) × (rotation k d m ≡ i)
  every i g =
      ⊎_elim
      (λ (t : i < d).
      let u : i + k - d < k = omega arith in
      (i + k - d, u, ⊎_elim (λ w. absurd (omega arith)) (λ w. omega (arith, w.1)) (rotation-cases (i + k - d) u)))
      (λ (t : d ≤ i).
      let u : i - d < k = omega arith in
      (i - d, u, ⊎_elim (λ w. omega (arith, w.1)) (λ w. absurd (omega arith)) (rotation-cases (i - d) u)))
      (below_or i d)

  pub rotation-order : Order k (rotation k d)
  rotation-order = record {
    below = λ m g. ⊎_elim (λ w. omega (arith, w.1)) (λ w. omega (arith, w.1)) (rotation-cases m g);
    once = once;
    every = every;
  }
