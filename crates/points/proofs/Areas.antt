-- Points in areas: an area taken apart into its bounds and put together, the area that holds no point, the field.
-- Assumes nothing.
use mathlib.Core.Path.{◌≡◌, subst, sym}
use mathlib.Core.Logic.{⊎_elim}
use mathlib.Core.Bool.{true, false}
use mathlib.Core.List.{List}
use Prim.Native.Nat.{ℕ, ◌≤◌, ◌<◌}
use native.Mathlib.Omega.{arith}
use lib.IntN.{ℤ, pos}
use lib.ListN.{replicate, length-replicate, get_or-replicate, get_or-eq_default}
use lib.Signed.{◌≤ℤ◌, ≤ℤ_refl}
use Rattle.integers.specs.Integer.{minus, Within}
use Rattle.integers.specs.Words.{word}
use Rattle.integers.proofs.Booleans.{clash, fails}
use Rattle.integers.proofs.Below.{below_or, all-at, at_all}
use Rattle.integers.proofs.Ints.{ints, ≤ℤ-trans, within-true, true-within}
use Rattle.integers.proofs.Machine.{within-pos, within-between, from-within}
use Rattle.points.specs.declared.Area.{Area}
use Rattle.points.specs.Area.{coordinates, reach, in_at, in_area, Small, InField, field_area}

module _ (k : ℕ) (a : Area) where
  -- ---- in an area, bound by bound
  pub area-at : (p : List ℤ) → in_area k a p ≡ true → (d : ℕ) → d < k
      → (word a.low d ≤ℤ word p d) × (word p d ≤ℤ word a.high d)
  unfolding in_area in_at
  area-at p e d h = within-true (all-at _ e d h)

  pub area-by : (p : List ℤ) → ((d : ℕ) → d < k → (word a.low d ≤ℤ word p d) × (word p d ≤ℤ word a.high d))
      → in_area k a p ≡ true
  unfolding in_area in_at
  area-by p h = at_all (λ d l. true-within (h d l).0 (h d l).1)

  -- ---- an area that holds any point holds its low point, and is empty where it does not hold that
  pub low-in : (p : List ℤ) → in_area k a p ≡ true → in_area k a a.low ≡ true
  low-in p e = area-by a.low (λ d l. let w = area-at p e d l in (≤ℤ_refl _, ≤ℤ-trans w.0 w.1))

  pub none_in : in_area k a a.low ≡ false → (p : List ℤ) → in_area k a p ≡ false
  none_in e p = fails (λ t. clash (low-in p t) e)

  pub low-high : in_area k a a.low ≡ true → (d : ℕ) → d < k → word a.low d ≤ℤ word a.high d
  low-high e d l = (area-at a.low e d l).1

  -- ---- a point of a small area
  pub in_small : {p : List ℤ} → Small a → in_area k a p ≡ true → InField k p
  in_small {p} s e = record { near = λ d l. let w = area-at p e d l in within-between (s.lows d) (s.highs d) w.0 w.1 }

-- ---- the field
pub in_field : {k : ℕ} {p : List ℤ} → k ≤ coordinates → InField k p → in_area k field_area p ≡ true
unfolding field_area
in_field {k} {p} h f =
    area-by k field_area p (λ d l.
    let m : d < coordinates = omega arith in
    let w = from-within (f.near d l) in
    (rw (get_or-replicate coordinates d (minus reach) (pos 0) m) w.0, rw (get_or-replicate coordinates d (pos reach) (pos 0) m) w.1))

-- a word of an array that holds one word everywhere, and 0 past its end
same-within : (m d : ℕ) {n : ℕ} {z : ℤ} → Within n z → Within n (word (replicate m z) d)
same-within m d {n} {z} h =
    ⊎_elim
    (λ l. subst (Within n) (sym (get_or-replicate m d z (pos 0) l)) h)
    (λ l. subst (Within n) (sym (get_or-eq_default (replicate m z) (pos 0) (omega (arith, length-replicate m z)))) (within-pos (omega arith)))
    (below_or d m)

pub small-field : Small field_area
unfolding field_area
small-field = record { lows = λ d. same-within coordinates d (omega ints); highs = λ d. same-within coordinates d (omega ints) }
