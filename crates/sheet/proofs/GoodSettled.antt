-- A fixed placement is good exactly when its table is settled (`good-iff-settled`). Assumes nothing.
use mathlib.Core.Path.{◌≡◌, sym, ap, ◌∙◌, subst}
use mathlib.Core.Logic.{◌↔◌}
use mathlib.Core.Bool.{Bool, true}
use mathlib.Core.List.{List}
use Prim.Native.Nat.{ℕ, ◌<◌}
use lib.IntN.{ℤ}
use Rattle.integers.specs.Below.{◌⇒◌, all_up_to}
use Rattle.integers.specs.Words.{word}
use Rattle.integers.proofs.Booleans.{true_implies}
use Rattle.integers.proofs.Below.{at-upto}
use Rattle.integers.proofs.Ints.{ints}
use Rattle.integers.proofs.Sets.{only-held, same-only}
use Rattle.sheet.specs.Layout.{axes, shape_set, low, has_shape, has_only}
use Rattle.sheet.specs.Allowed.{allowed}
use Rattle.sheet.specs.Placement.{fixed, point_of, good}
use Rattle.sheet.specs.Narrow.{Stands, Reached}
use Rattle.sheet.specs.Settle.{Settled}
use Rattle.sheet.proofs.Forbidden.{allowed-parts, in-range}
use Rattle.sheet.proofs.Coordinates.{allowed-agree}
use Rattle.sheet.proofs.Exchange.{at-point}
use Rattle.sheet.proofs.Fixed.{Row, still, one}
use Rattle.sheet.proofs.Catalogue.{stands}

module _ (block : List ℤ) (table : List ℤ) (all-fixed : fixed block table ≡ true) where
  module _ (g : good block table ≡ true) (i : ℕ) (row : Row block table i) where
    -- the row's one shape, at its point
    at-origin : Stands block table i (point_of block table i)
    unfolding has_shape has_only
    at-origin =
        let o = one block table all-fixed i row in
        let held = only-held (shape_set block table i) o.0 o.3 in
        record { shape = o.0; held = held; stands = stands block table all-fixed g i o.0 row o.1 o.2 held }

    low-reached : (d : ℕ) → d < axes block → Reached block table i d (low block table i d)
    low-reached d l = record { point = point_of block table i; there = at-point block table i d l; by = at-origin }

    shape-stands : (s : ℕ) → has_shape block table i s ≡ true → (p : List ℤ) × (allowed block table i s p ≡ true)
    unfolding has_shape has_only
    shape-stands s e =
        let o = one block table all-fixed i row in
        let z : s ≡ o.0 = same-only (shape_set block table i) o.3 e in
        let held = only-held (shape_set block table i) o.0 o.3 in (
          point_of block table i,
          ap (λ (x : ℕ). allowed block table i x (point_of block table i)) z ∙ stands block table all-fixed g i o.0 row o.1 o.2 held,
        )

  good-settled : good block table ≡ true → Settled block table
  good-settled g =
      record {
        lows = λ i d h k l. low-reached g i (record { from = h; upto = k }) d l;
        highs = λ i d h k l.
            let row : Row block table i = record { from = h; upto = k } in
            subst (λ (z : ℤ). Reached block table i d z) (still block table all-fixed i row d l) (low-reached g i row d l);
        shapes = λ i s h k e. shape-stands g i (record { from = h; upto = k }) s e;
      }

  abbrev allowed-point : ℕ → ℕ → Bool
  allowed-point i s = has_shape block table i s ⇒ allowed block table i s (point_of block table i)

  settled-good : Settled block table → good block table ≡ true
  unfolding good
  settled-good st =
      at-upto (λ i. all_up_to 32 (allowed-point i)) (λ i h k. at-upto (allowed-point i) (λ s h32 k32. true_implies (λ e.
      let w = st.shapes i s h k e in
      sym (allowed-agree block table w.0 (point_of block table i) (λ d l. only-point i (record { from = h; upto = k }) s w.0 w.1 d l) i s)
      ∙ w.1)))
    where
      -- every allowed point of a fixed row is its origin
      only-point : (i : ℕ) → Row block table i → (s : ℕ) (p : List ℤ) → allowed block table i s p ≡ true → (d : ℕ) → d < axes block
          → word p d ≡ word (point_of block table i) d
      only-point i row s p e d l =
          let r = in-range block table i d p (allowed-parts block table i s p e).0 l in
          let f = still block table all-fixed i row d l in
          let o = at-point block table i d l in
          omega ints

  pub good-iff-settled : (good block table ≡ true) ↔ Settled block table
  good-iff-settled = (good-settled, settled-good)
