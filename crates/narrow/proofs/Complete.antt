-- Every shape taken in: the ends are those of the narrowed row, and the set is that of the shapes with a point, so the row's words are
-- the ones that `narrow_of` writes (`narrow-some`); with no shape left there is no place (`narrow-none`). Assumes nothing.
use mathlib.Core.Path.{◌≡◌, refl, sym, ap, ap₂, ◌∙◌, subst}
use mathlib.Core.Logic.{⊎_elim}
use mathlib.Core.Bool.{Bool, true, false, cond}
use mathlib.Core.List.{List, [], ◌∷◌, ◌++◌}
use mathlib.Core.Option.{none, some}
use Prim.Native.Nat.{ℕ, zero, suc, ◌≤◌, ◌<◌}
use native.Mathlib.Omega.{arith}
use lib.IntN.{ℤ, pos}
use Rattle.integers.specs.Below.{value_or}
use Rattle.integers.specs.Bits.{set_of}
use Rattle.integers.specs.Words.{pairs_below, replaced}
use Rattle.integers.proofs.Booleans.{and-true, true-and}
use Rattle.integers.proofs.Sets.{living-set, set_of-holds, holds-set_of, set-ge-1, small-set, member-ge-1}
use Rattle.integers.proofs.Ints.{ints}
use Rattle.sheet.specs.Layout.{axes, row_at, rows, shape_set, low, high, has_shape}
use Rattle.sheet.specs.Allowed.{in_ranges, allowed}
use Rattle.sheet.specs.Bounds.{there, least_by, greatest_by}
use Rattle.sheet.specs.Narrow.{Stands, no_place, row_allowed, keeps_shape, narrow_low, narrow_high, narrow_row, narrow_of}
use Rattle.sheet.specs.Accepted.{Table}
use Rattle.sheet.proofs.Forbidden.{allowed-parts}
use Rattle.sheet.proofs.Coordinates.{allowed-agree, row-allowed-agree}
use Rattle.sheet.proofs.Points.{found, met}
use Rattle.sheet.proofs.Extremes.{least-by, greatest-by, least-unique, greatest-unique}
use Rattle.sheet.proofs.Narrows.{row-allowed-by, row-allowed-parts}
use Rattle.sheet.proofs.NarrowsOnce.{narrow-is}
use Rattle.points.specs.Ends.{end_at}
use Rattle.narrow.specs.Ends.{StandsTo, Edge, End}
use Rattle.narrow.specs.Shapes.{KeptTo}

module _ (block : List ℤ) (t : List ℤ) (table : Table block t) (i : ℕ) (from : 1 ≤ i) (upto : i ≤ rows block t) where
  -- a point of the row is one of its shapes up to 32
  few : (s : ℕ) → has_shape block t i s ≡ true → s ≤ 32
  unfolding has_shape
  few s e = small-set {n = 32} (table.sets_upto i from upto) e

  to-32 : (p : List ℤ) → Stands block t i p → StandsTo block t i 32 p
  to-32 p st = record { shape = st.shape; upto = few st.shape st.held; held = st.held; stands = st.stands }

  ranged : (p : List ℤ) → row_allowed block t i p ≡ true → in_ranges block t i p ≡ true
  ranged p e = let w = row-allowed-parts block t table i from upto p e in (allowed-parts block t i w.shape p w.stands).0

  abbrev row-test : List ℤ → Bool
  row-test = row_allowed block t i

  reached-end : {flip : Bool} {d : ℕ} {z : ℤ} → End block t i flip 32 d z → (p : List ℤ) → Stands block t i p → Edge block t i flip 32 d z
  reached-end x p st = ⊎_elim (λ e. e) (λ u. absurd (u.1 p (to-32 p st))) x

  module _ (p : List ℤ) (st : Stands block t i p) (d : ℕ) (hd : d < axes block) (z : ℤ) where
    low-is : End block t i false 32 d z → narrow_low block t i d ≡ z
    unfolding narrow_low value_or
    low-is x =
        let e = reached-end x p st in
        let r = e.reached in
        ap (value_or (low block t i d))
        (least-unique (least_by block t i row-test d) (some z)
        (least-by block t i row-test (λ p q h. row-allowed-agree block t p q h i) ranged d hd)
        (there r.point (row-allowed-by block t table i from upto r.point r.by) r.there
        (λ q a. e.ahead q (to-32 q (row-allowed-parts block t table i from upto q a)))))

    high_is : End block t i true 32 d z → narrow_high block t i d ≡ z
    unfolding narrow_high value_or
    high_is x =
        let e = reached-end x p st in
        let r = e.reached in
        ap (value_or (high block t i d))
        (greatest-unique (greatest_by block t i row-test d) (some z)
        (greatest-by block t i row-test (λ p q h. row-allowed-agree block t p q h i) ranged d hd)
        (there r.point (row-allowed-by block t table i from upto r.point r.by) r.there
        (λ q a. e.ahead q (to-32 q (row-allowed-parts block t table i from upto q a)))))

  -- ---- the set
  kept-stands : (s : ℕ) → keeps_shape block t i s ≡ true → (p : List ℤ) × Stands block t i p
  unfolding keeps_shape
  kept-stands s e =
      let w = and-true {a = has_shape block t i s} e in
      let q = found block t i (allowed block t i s) w.1 in
      (q.0, record { shape = s; held = w.0; stands = q.1 })

  stands-kept : (p : List ℤ) (st : Stands block t i p) → keeps_shape block t i st.shape ≡ true
  unfolding keeps_shape
  stands-kept p st =
      true-and st.held
      (met block t i (allowed block t i st.shape) (λ p q h. allowed-agree block t p q h i st.shape) p
      (allowed-parts block t i st.shape p st.stands).0 st.stands)

  some-place : 1 ≤ set_of 32 (keeps_shape block t i) → (p : List ℤ) × Stands block t i p
  some-place h =
      let s = living-set {z = pos (set_of 32 (keeps_shape block t i))} (omega ints) in
      kept-stands s.0 (set_of-holds 32 (keeps_shape block t i) s.0 s.1).1

  pub narrow-none : set_of 32 (keeps_shape block t i) ≡ 0 → narrow_of block t i ≡ none
  unfolding has_shape
  narrow-none e =
      narrow-is block t i from table upto none (no_place (λ p st.
      let h = holds-set_of 32 (keeps_shape block t i) st.shape (member-ge-1 (shape_set block t i) st.held) (few st.shape st.held)
      ∙ stands-kept p st in
      let g = set-ge-1 (pos (set_of 32 (keeps_shape block t i))) st.shape h in
      omega ints))

  -- ---- the words
  pairs-same : (n : ℕ) (f g f' g' : ℕ → ℤ) → ((d : ℕ) → d < n → (f d ≡ f' d) × (g d ≡ g' d)) → pairs_below n f g ≡ pairs_below n f' g'
  unfolding pairs_below
  pairs-same zero f g f' g' h = refl
  pairs-same (suc n) f g f' g' h =
      ap₂ (λ (xs ys : List ℤ). xs ++ ys) (pairs-same n f g f' g' (λ d l. h d (omega arith)))
      (ap₂ (λ (x y : ℤ). x ∷ y ∷ []) (h n (omega arith)).0 (h n (omega arith)).1)

  module _ (set : ℕ) (ends : List ℤ) (left : 1 ≤ set) (x : KeptTo block t i 32 set ends) where
    abbrev row_words : List ℤ
    row_words = pos set ∷ pairs_below (axes block) (λ d. end_at false d ends) (λ d. end_at true d ends)

    words_are : (p : List ℤ) → Stands block t i p → narrow_row block t i ≡ row_words
    unfolding narrow_row
    words_are p st =
        ap₂ (λ (n : ℕ) (xs : List ℤ). pos n ∷ xs) (sym x.kept)
        (pairs-same (axes block) (narrow_low block t i) (narrow_high block t i) (λ d. end_at false d ends) (λ d. end_at true d ends)
        (λ d l. (low-is p st d l (end_at false d ends) (x.ends_of false d l), high_is p st d l (end_at true d ends) (x.ends_of true d l))))

    pub narrow-some : narrow_of block t i ≡ some (replaced t (row_at block i) row_words)
    unfolding narrow_of
    narrow-some =
        let q = some-place (subst (λ (n : ℕ). 1 ≤ n) x.kept left) in
        let e = met block t i row-test (λ p q h. row-allowed-agree block t p q h i) q.0
        (ranged q.0 (row-allowed-by block t table i from upto q.0 q.1)) (row-allowed-by block t table i from upto q.0 q.1) in
        ap (λ (b : Bool). cond b (some (replaced t (row_at block i) (narrow_row block t i))) none) e
        ∙ ap (λ (ws : List ℤ). some (replaced t (row_at block i) ws)) (words_are q.0 q.1)
