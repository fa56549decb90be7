-- The values that are open for a number: none is far from 0 (`open-near`), and the lowest shape of a set is its least (`lowest-number`).
-- Assumes nothing.
use mathlib.Core.Path.{◌≡◌, refl, ap}
use mathlib.Core.Logic.{⊎_elim}
use mathlib.Core.Bool.{Bool, true, false, not, ◌&&◌}
use mathlib.Core.List.{List}
use Prim.Native.Nat.{ℕ, zero, suc, ◌-◌, ◌≤◌}
use native.Mathlib.Omega.{arith}
use lib.Dec.{eqb}
use borrow.Author.Tests.{eqb-true, eqb-false}
use lib.IntN.{ℤ, pos, negsuc}
use lib.Signed.{◌<ℤ◌, ≤ℤ_refl}
use Rattle.integers.specs.Integer.{nat, Within}
use Rattle.integers.specs.Below.{any_up_to}
use Rattle.integers.proofs.Booleans.{clash, decide, and-true, true-and, not-true}
use Rattle.integers.proofs.Below.{NoneBelow, Least, least-view}
use Rattle.integers.proofs.Ints.{ints, ≤ℤ-antisym, within-true, true-within}
use Rattle.integers.proofs.Machine.{within-pos, within-between}
use Rattle.integers.proofs.Sets.{none-zero, small-set}
use Rattle.sheet.specs.Layout.{shape_set, has_shape, has_only, low, high}
use Rattle.sheet.specs.Accepted.{Table}
use Rattle.sheet.specs.Cuts.{HasNumber, is_open, number, Single}
use Rattle.sheet.proofs.Numbers.{number-least, number-open, single-only}
use Rattle.words.specs.Shapes.{LowestShape}
use Rattle.splits.specs.Splits.{far, Several, SplitAt}

module _ (block : List ℤ) (t : List ℤ) (table : Table block t) where
  pub open-near : (i c : ℕ) → HasNumber block t i c → (z : ℤ) → is_open block t i c z ≡ true → Within far z
  unfolding is_open has_shape
  open-near i zero n (negsuc m) e = clash e (none-zero (shape_set block t i))
  open-near i zero n (pos s) e =
      let few : s ≤ 32 = small-set (table.sets_upto i n.from n.upto) e in
      within-pos (omega ints)
  open-near i (suc d) n z e =
      let w = within-true e in
      within-between (table.lows i d n.from n.upto n.few) (table.highs i d n.from n.upto n.few) w.0 w.1

  pub number-near : (i c : ℕ) → HasNumber block t i c → Within far (number block t i c)
  number-near i c n = open-near i c n (number block t i c) (number-open block t table i c n)

  pub lowest-number : (i s : ℕ) → HasNumber block t i 0 → LowestShape block t i s → number block t i 0 ≡ pos s
  unfolding is_open number
  lowest-number i s n x =
      let o = number-open block t table i 0 n in
      let l = x.least (nat (number block t i 0)) o in
      ≤ℤ-antisym (number-least block t i 0 x.held) (omega ints)

  -- ---- one value is open, or several
  pub shapes-several : (i : ℕ) → HasNumber block t i 0 → any_up_to 32 (has_only block t i) ≡ false → Several block t i 0
  unfolding is_open number has_shape
  shapes-several i n e = ⊎_elim other (λ w. clash (single-only block t table i n.from n.upto (alone w.1)) e) (least-view 33 another)
    where
      lowest : ℕ
      lowest = nat (number block t i 0)

      another : ℕ → Bool
      another s = has_shape block t i s && not (eqb s lowest)

      other : Least 33 another → Several block t i 0
      other w =
          let p : (has_shape block t i w.at ≡ true) × (not (eqb w.at lowest) ≡ true) = and-true w.passes in
          let ne = eqb-false w.at lowest (not-true p.1) in
          let l = number-least block t i 0 {z = pos w.at} p.0 in
          record { next = pos w.at; opens = p.0; past = omega (ints, ne) }

      alone : NoneBelow 33 another → Single block t i 0
      alone none (negsuc m) o = clash o (none-zero (shape_set block t i))
      alone none (pos s) o =
          let few : s ≤ 32 = small-set (table.sets_upto i n.from n.upto) o in
          ⊎_elim (λ e. ap pos (eqb-true s lowest e)) (λ e. clash (true-and o (ap not e)) (none s (omega ints))) (decide (eqb s lowest))

  pub range-several : (i d : ℕ) → low block t i d <ℤ high block t i d → Several block t i (suc d)
  unfolding is_open number
  range-several i d l = record { next = high block t i d; opens = true-within (omega ints) (≤ℤ_refl _); past = l }

-- ---- a number that is no shape's is a coordinate
module _ (block : List ℤ) (t : List ℤ) (i : ℕ) where
  pub coordinate : (c : ℕ) → (c ≡ 0 → ⊥) → number block t i c ≡ low block t i (c - 1)
  unfolding number
  coordinate zero ne = absurd (ne refl)
  coordinate (suc d) ne = let q : d ≡ suc d - 1 = omega arith in ap (low block t i) q

  -- the high end is open, and where several values are, it is past the least
  pub high-open : Table block t → (c : ℕ) → HasNumber block t i c → (c ≡ 0 → ⊥) → is_open block t i c (high block t i (c - 1)) ≡ true
  unfolding is_open
  high-open table zero n ne = absurd (ne refl)
  high-open table (suc d) n ne =
      let q : suc d - 1 ≡ d = omega arith in
      rw q (true-within (table.ordered i d n.from n.upto n.few) (≤ℤ_refl _))

  pub high-past : (c : ℕ) → (c ≡ 0 → ⊥) → Several block t i c → number block t i c <ℤ high block t i (c - 1)
  unfolding is_open
  high-past zero ne x = absurd (ne refl)
  high-past (suc d) ne x =
      let q : suc d - 1 ≡ d = omega arith in
      let w = within-true x.opens in
      let p = x.past in
      rw q (omega ints)

-- several values are split at the least of them
pub split-least : {block t : List ℤ} {i c : ℕ} {z : ℤ} → HasNumber block t i c → Several block t i c → z ≡ number block t i c → SplitAt block t i c z
split-least n x e = record { has = n; from = omega ints; next = x.next; opens = x.opens; past = let p = x.past in omega ints }
