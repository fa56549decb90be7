-- Narrowing one row of an accepted table finds what document 01 asks (`narrow-finds`): 'no place' exactly when no point is allowed;
-- otherwise the other rows keep their words, each end is reached and bounds all allowed points, and a shape stays exactly when it
-- has a point. Assumes nothing.
use mathlib.Core.Path.{◌≡◌, refl, sym, ap, ◌∙◌, subst⁻¹}
use mathlib.Core.Logic.{⊎_elim}
use mathlib.Core.Bool.{Bool, true, false, cond, ◌&&◌}
use mathlib.Core.List.{List, ◌∷◌}
use mathlib.Core.Option.{Option, none, some}
use Prim.Native.Nat.{ℕ, suc, ◌+◌, ◌*◌, ◌≤◌, ◌<◌}
use native.Mathlib.Omega.{arith}
use lib.ListN.{length}
use lib.IntN.{ℤ, pos}
use lib.Signed.{◌≤ℤ◌}
use Rattle.integers.specs.Below.{value_or}
use Rattle.integers.specs.Bits.{holds, set_of}
use Rattle.integers.specs.Words.{word, pairs_below, replaced}
use Rattle.integers.proofs.Booleans.{clash, decide, and-true, true-and}
use Rattle.integers.proofs.Below.{some-upto, upto-some}
use Rattle.integers.proofs.Sets.{member-ge-1, small-set, holds-set_of, set_of-holds}
use Rattle.integers.proofs.Lists.{length-pairs_below, pairs_below-first, pairs_below-second, length-replaced, replaced-before}
use Rattle.integers.proofs.Lists.{replaced-in, replaced-after}
use Rattle.sheet.specs.Layout.{axes, row_len, row_at, rows, shape_set, low, high, has_shape}
use Rattle.sheet.specs.Allowed.{in_ranges, allowed}
use Rattle.sheet.specs.Bounds.{Extreme, nowhere, there, some_point}
use Rattle.sheet.specs.Narrow.{Stands, Reached, Narrowed, Narrows, no_place, narrowed, row_allowed, keeps_shape, narrow_low}
use Rattle.sheet.specs.Narrow.{narrow_high, narrow_row, narrow_of}
use Rattle.sheet.specs.Accepted.{Table}
use Rattle.sheet.proofs.Forbidden.{allowed-parts}
use Rattle.sheet.proofs.Coordinates.{allowed-agree, row-allowed-agree}
use Rattle.sheet.proofs.Points.{Respects, found, met}
use Rattle.sheet.proofs.Extremes.{least-by, greatest-by}
use Rattle.sheet.proofs.Rows.{row_fits}

-- the value found, where some point passes: it is reached, and stands before every other
extreme-value : {before : ℤ → ℤ → Type 0} {f : List ℤ → Bool} {d : ℕ} (x : ℤ) (o : Option ℤ) → Extreme before f d o → (p : List ℤ) → f p ≡ true
    → ((q : List ℤ) × (f q ≡ true) × (word q d ≡ value_or x o)) × ((q : List ℤ) → f q ≡ true → before (value_or x o) (word q d))
unfolding value_or
extreme-value x none (nowhere h) p e = absurd (h p e)
extreme-value x (some z) (there q e w h) p g = ((q, e, w), h)

module _ (block : List ℤ) (t : List ℤ) (table : Table block t) (i : ℕ) (from : 1 ≤ i) (upto : i ≤ rows block t) where
  small : (s : ℕ) → has_shape block t i s ≡ true → s ≤ 32
  unfolding has_shape
  small s e = small-set {n = 32} (table.sets_upto i from upto) e

  numbered : (s : ℕ) → has_shape block t i s ≡ true → 1 ≤ s
  unfolding has_shape
  numbered s e = member-ge-1 (shape_set block t i) e

  -- ---- the row's points
  abbrev shape-allowed : List ℤ → ℕ → Bool
  shape-allowed p s = has_shape block t i s && allowed block t i s p

  pub row-allowed-by : (p : List ℤ) → Stands block t i p → row_allowed block t i p ≡ true
  unfolding row_allowed
  row-allowed-by p w =
      upto-some (shape-allowed p) w.shape (numbered w.shape w.held) (small w.shape w.held) (true-and w.held w.stands)

  pub row-allowed-parts : (p : List ℤ) → row_allowed block t i p ≡ true → Stands block t i p
  unfolding row_allowed
  row-allowed-parts p e =
      let w = some-upto (shape-allowed p) e in
      let u = and-true w.3 in
      record { shape = w.0; held = u.0; stands = u.1 }

  agree : Respects block t i (row_allowed block t i)
  agree p q h = row-allowed-agree block t p q h i

  pub ranged : (p : List ℤ) → row_allowed block t i p ≡ true → in_ranges block t i p ≡ true
  ranged p e = let w = row-allowed-parts p e in (allowed-parts block t i w.shape p w.stands).0

  -- ---- the ends
  reached-by : (d : ℕ) (z : ℤ) → (q : List ℤ) × (row_allowed block t i q ≡ true) × (word q d ≡ z) → Reached block t i d z
  reached-by d z w = record { point = w.0; there = w.2; by = row-allowed-parts w.0 w.1 }

  module _ (p : List ℤ) (st : Stands block t i p) (d : ℕ) (hd : d < axes block) where
    low-found : Reached block t i d (narrow_low block t i d) × ((q : List ℤ) → Stands block t i q → narrow_low block t i d ≤ℤ word q d)
    unfolding narrow_low
    low-found =
        let x = extreme-value (low block t i d) _ (least-by block t i (row_allowed block t i) agree ranged d hd) p (row-allowed-by p st) in
        (reached-by d _ x.0, λ q w. x.1 q (row-allowed-by q w))

    high-found : Reached block t i d (narrow_high block t i d) × ((q : List ℤ) → Stands block t i q → word q d ≤ℤ narrow_high block t i d)
    unfolding narrow_high
    high-found =
        let x = extreme-value (high block t i d) _ (greatest-by block t i (row_allowed block t i) agree ranged d hd) p (row-allowed-by p st) in
        (reached-by d _ x.0, λ q w. x.1 q (row-allowed-by q w))

  -- ---- the words of the narrowed row
  row-length : length (narrow_row block t i) ≡ row_len block
  unfolding narrow_row row_len
  row-length = omega (arith, length-pairs_below (axes block) (narrow_low block t i) (narrow_high block t i))

  row_low : (d : ℕ) → d < axes block → word (narrow_row block t i) (1 + 2 * d) ≡ narrow_low block t i d
  unfolding narrow_row
  row_low d h =
      let z : 1 + 2 * d ≡ suc (2 * d) = omega arith in
      ap (word (pos (set_of 32 (keeps_shape block t i)) ∷ pairs_below (axes block) (narrow_low block t i) (narrow_high block t i))) z
      ∙ pairs_below-first (narrow_low block t i) (narrow_high block t i) h

  row-high : (d : ℕ) → d < axes block → word (narrow_row block t i) (2 + 2 * d) ≡ narrow_high block t i d
  unfolding narrow_row
  row-high d h =
      let z : 2 + 2 * d ≡ suc (2 * d + 1) = omega arith in
      ap (word (pos (set_of 32 (keeps_shape block t i)) ∷ pairs_below (axes block) (narrow_low block t i) (narrow_high block t i))) z
      ∙ pairs_below-second (narrow_low block t i) (narrow_high block t i) h

  row-set : word (narrow_row block t i) 0 ≡ pos (set_of 32 (keeps_shape block t i))
  unfolding narrow_row
  row-set = refl

  -- ---- the table with that row
  abbrev after : List ℤ
  after = replaced t (row_at block i) (narrow_row block t i)

  fits : row_at block i + length (narrow_row block t i) ≤ length t
  fits = omega (arith, row-length, row_fits block t i table.whole from upto)

  new_word : (e : ℕ) → e < row_len block → word after (row_at block i + e) ≡ word (narrow_row block t i) e
  new_word e h = replaced-in t (row_at block i) (narrow_row block t i) fits e (omega (arith, row-length))

  new-set : shape_set block after i ≡ pos (set_of 32 (keeps_shape block t i))
  unfolding shape_set row_len
  new-set = let z : row_at block i ≡ row_at block i + 0 = omega arith in ap (word after) z ∙ new_word 0 (omega arith) ∙ row-set

  new-low : (d : ℕ) → d < axes block → low block after i d ≡ narrow_low block t i d
  unfolding low row_len
  new-low d h =
      let z : row_at block i + 1 + 2 * d ≡ row_at block i + (1 + 2 * d) = omega arith in
      ap (word after) z ∙ new_word (1 + 2 * d) (omega arith) ∙ row_low d h

  new-high : (d : ℕ) → d < axes block → high block after i d ≡ narrow_high block t i d
  unfolding high row_len
  new-high d h =
      let z : row_at block i + 2 + 2 * d ≡ row_at block i + (2 + 2 * d) = omega arith in
      ap (word after) z ∙ new_word (2 + 2 * d) (omega arith) ∙ row-high d h

  -- ---- the shapes
  shape-stays : (s : ℕ) → has_shape block after i s ≡ true → (has_shape block t i s ≡ true) × ((p : List ℤ) × (allowed block t i s p ≡ true))
  unfolding has_shape keeps_shape
  shape-stays s e =
      let a = set_of-holds 32 (keeps_shape block t i) s (ap (λ (z : ℤ). holds z s) (sym new-set) ∙ e) in
      let b = and-true a.1 in
      (b.0, found block t i (allowed block t i s) b.1)

  stays-shape : (s : ℕ) → (has_shape block t i s ≡ true) × ((p : List ℤ) × (allowed block t i s p ≡ true)) → has_shape block after i s ≡ true
  unfolding has_shape keeps_shape
  stays-shape s w =
      ap (λ (z : ℤ). holds z s) new-set
      ∙ holds-set_of 32 (keeps_shape block t i) s (numbered s w.0) (small s w.0)
      ∙ true-and w.0 (met block t i (allowed block t i s) (λ p q h. allowed-agree block t p q h i s) w.1.0
      (allowed-parts block t i s w.1.0 w.1.1).0 w.1.1)

  narrowed-after : (p : List ℤ) → Stands block t i p → Narrowed block t i after
  narrowed-after p st =
      record {
        as_long = length-replaced t (row_at block i) (narrow_row block t i) fits;
        others = λ at. (
          λ h. replaced-before t (row_at block i) (narrow_row block t i) fits at h,
          λ h. replaced-after t (row_at block i) (narrow_row block t i) fits at (omega (arith, row-length)),
        );
        lows = λ d h. subst⁻¹ (λ (z : ℤ). Reached block t i d z) (new-low d h) (low-found p st d h).0;
        highs = λ d h. subst⁻¹ (λ (z : ℤ). Reached block t i d z) (new-high d h) (high-found p st d h).0;
        bounds = λ q w d h. (
          subst⁻¹ (λ (z : ℤ). z ≤ℤ word q d) (new-low d h) ((low-found p st d h).1 q w),
          subst⁻¹ (λ (z : ℤ). word q d ≤ℤ z) (new-high d h) ((high-found p st d h).1 q w),
        );
        shapes = λ s. (λ e. shape-stays s e, λ w. stays-shape s w);
      }

  -- NARROWING: what the definition finds is what must be found
  pub narrow-finds : Narrows block t i (narrow_of block t i)
  unfolding narrow_of
  narrow-finds = ⊎_elim some-point no-point (decide (some_point block t i (row_allowed block t i)))
    where
      some-point : some_point block t i (row_allowed block t i) ≡ true
          → Narrows block t i (cond (some_point block t i (row_allowed block t i)) (some after) none)
      some-point e =
          let q = found block t i (row_allowed block t i) e in
          let st = row-allowed-parts q.0 q.1 in
          subst⁻¹ (λ (x : Bool). Narrows block t i (cond x (some after) none)) e (narrowed q.0 st (narrowed-after q.0 st))

      no-point : some_point block t i (row_allowed block t i) ≡ false
          → Narrows block t i (cond (some_point block t i (row_allowed block t i)) (some after) none)
      no-point e =
          subst⁻¹ (λ (x : Bool). Narrows block t i (cond x (some after) none)) e
          (no_place (λ p st. clash (met block t i (row_allowed block t i) agree p (ranged p (row-allowed-by p st)) (row-allowed-by p st)) e))
