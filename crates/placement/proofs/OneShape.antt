-- The lowest shape of a fixed row is its one shape (`lowest-sole`), and the row is good exactly when that shape is allowed at the row's point
-- (`row-good-is`). Assumes nothing.
use mathlib.Core.Path.{◌≡◌, sym, ◌∙◌, subst}
use mathlib.Core.Bool.{Bool, true}
use mathlib.Core.List.{List}
use Prim.Native.Nat.{ℕ, ◌<◌}
use lib.IntN.{ℤ}
use Rattle.integers.specs.Below.{◌⇒◌}
use Rattle.integers.specs.Words.{word}
use Rattle.integers.proofs.Booleans.{both_ways, and-true, implies_true, true_implies}
use Rattle.integers.proofs.Below.{upto-at, at-upto, some-upto}
use Rattle.integers.proofs.Sets.{only-held, same-only, held-only}
use Rattle.sheet.specs.Layout.{axes, shape_set, low, has_shape, has_only}
use Rattle.sheet.specs.Allowed.{allowed}
use Rattle.sheet.specs.Placement.{row_fixed, point_of}
use Rattle.sheet.proofs.Coordinates.{allowed-agree}
use Rattle.sheet.proofs.Exchange.{at-point}
use Rattle.words.specs.Shapes.{LowestShape}
use Rattle.words.proofs.Shapes.{shape-from}
use Rattle.placement.specs.Rows.{row_good}
use Rattle.placement.specs.Before.{SoleShape}

module _ (block t : List ℤ) {i s : ℕ} where
  pub lowest-sole : row_fixed block t i ≡ true → LowestShape block t i s → SoleShape block t i s
  unfolding row_fixed has_shape has_only
  lowest-sole fixed l =
      let w = some-upto (has_only block t i) (and-true fixed).0 in
      record {
        from = shape-from block t i s l.held;
        upto = l.upto;
        only = held-only (shape_set block t i) w.0 s w.3 l.held;
      }

  module _ (o : SoleShape block t i s) where
    pub held : has_shape block t i s ≡ true
    unfolding has_shape has_only
    held = only-held (shape_set block t i) s o.only

    pub sole : (x : ℕ) → has_shape block t i x ≡ true → x ≡ s
    unfolding has_shape has_only
    sole x e = same-only (shape_set block t i) o.only e

    module _ (p : List ℤ) (at : (d : ℕ) → d < axes block → word p d ≡ low block t i d) where
      agree : (x : ℕ) → allowed block t i x p ≡ allowed block t i x (point_of block t i)
      agree x = allowed-agree block t p (point_of block t i) (λ d l. at d l ∙ sym (at-point block t i d l)) i x

      abbrev test : ℕ → Bool
      test x = has_shape block t i x ⇒ allowed block t i x (point_of block t i)

      yes : allowed block t i s p ≡ true → row_good block t i ≡ true
      yes e =
          at-upto test (λ x f u. true_implies (λ q.
          subst (λ (y : ℕ). allowed block t i y (point_of block t i) ≡ true) (sym (sole x q)) (sym (agree s) ∙ e)))

      no : row_good block t i ≡ true → allowed block t i s p ≡ true
      no g = agree s ∙ implies_true (upto-at test g s o.from o.upto) held

      pub row-good-is : allowed block t i s p ≡ row_good block t i
      row-good-is = both_ways _ _ yes no
