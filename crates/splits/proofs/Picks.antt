-- Picking a number that can be split: one column more of a row, one row more of a table, and the whole table. Assumes nothing.
use mathlib.Core.Path.{◌≡◌, refl, sym, ap, subst}
use mathlib.Core.Logic.{⊎_elim}
use mathlib.Core.Bool.{true}
use mathlib.Core.List.{List}
use Prim.Native.Nat.{ℕ, zero, suc, ◌+◌, ◌*◌, ◌≤◌, ◌<◌}
use native.Mathlib.Nat.{not-suc-le-zero, mul-le-mul_right, mul-zero}
use native.Mathlib.Numerals.{add-one}
use native.Mathlib.Omega.{arith}
use lib.IntN.{ℤ}
use Rattle.std.specs.Prelude.{Option, None, Some, MatchOption}
use Rattle.integers.proofs.Below.{last_or, at-upto}
use Rattle.sheet.specs.Layout.{axes, rows}
use Rattle.sheet.specs.Placement.{row_fixed, fixed}
use Rattle.sheet.specs.Accepted.{Table}
use Rattle.sheet.specs.Cuts.{HasNumber, Single}
use Rattle.sheet.proofs.Numbers.{single-fixed}
use Rattle.splits.specs.declared.pick.Gain.{Gain}
use Rattle.splits.specs.Splits.{Several}
use Rattle.splits.specs.Picks.{OpenColumn, Spread, Weight, CanSplit, Gains}

module _ (block : List ℤ) (t : List ℤ) where
  -- one number more has one value
  pub single_more : (i c : ℕ) → ((e : ℕ) → e < c → Single block t i e) → Single block t i c → (e : ℕ) → e < c + 1 → Single block t i e
  single_more i c before here e h =
      ⊎_elim (λ q. subst (Single block t i) (sym q) here) (λ l. before e l) (last_or (rw (add-one c) at h))

  -- each row is fixed
  pub all-fixed : ((i : ℕ) → 1 ≤ i → i ≤ rows block t → row_fixed block t i ≡ true) → fixed block t ≡ true
  unfolding fixed
  all-fixed h = at-upto (row_fixed block t) h

  -- the first column of several values, found or not
  pub column-found : {i n : ℕ} (r : Option ℕ) → n ≡ axes block + 1 → Table block t → 1 ≤ i → i ≤ rows block t
      → MatchOption r ((c : ℕ) → 0 ≤ c → c < n → Single block t i c)
      (λ c. (0 ≤ c) × (c < n) × Several block t i c × ((e : ℕ) → 0 ≤ e → e < c → Single block t i e))
      → OpenColumn block t i r
  column-found {i} None q table from upto h = single-fixed block t table i from upto (λ c few. h c (omega arith) (omega arith))
  column-found (Some c) q table from upto h = (omega arith, h.2)

  -- ---- the greatest gain
  pub gains-start : Gains block t 1 0 None
  gains-start = record { rows = λ i h l. absurd (omega arith); columns = λ e h. absurd (not-suc-le-zero h) }

  -- a column whose gain is no greater, and one whose gain is
  module _ {m c w r : ℕ} (weight : Weight w) (spread : Spread block t m c r) where
    pub gains-kept : (g : Option Gain) → Gains block t m c g → (g ≡ None → w * r ≡ 0) → Gains block t m (c + 1) g
    gains-kept None x z =
        record {
          rows = x.rows;
          columns = single_more m c x.columns (spread.none (omega (arith, z refl, mul-le-mul_right r weight.from)));
        }
    gains-kept (Some g) x z = x

    pub gains-new : HasNumber block t m c → 0 < w * r → CanSplit block t m c
    gains-new n l = record { has = n; some = spread.some (by r refl) }
      where
        by : (k : ℕ) → r ≡ k → 0 < k
        by zero q = absurd (omega (arith, l, ap (λ (k : ℕ). w * k) q, mul-zero w))
        by (suc k) q = omega arith

  -- a row whose columns are all passed
  pub gains-row :
      (m : ℕ) {c : ℕ} (g : Option Gain)
      → Table block t → 1 ≤ m → m ≤ rows block t → axes block < c → Gains block t m c g → Gains block t (m + 1) 0 g
  gains-row m None table from upto past x =
      record {
        rows = λ i h l.
            ⊎_elim
            (λ e. rw e (single-fixed block t table m from upto (λ d few. x.columns d (omega arith))))
            (λ less. x.rows i h less)
            (last_or (rw (add-one m) at l));
        columns = λ e h. absurd (not-suc-le-zero h);
      }
  gains-row m (Some g) table from upto past x = x

  -- every row passed
  pub gains-fixed : Gains block t (rows block t + 1) 0 None → fixed block t ≡ true
  gains-fixed x = all-fixed (λ i h l. x.rows i h (omega arith))
