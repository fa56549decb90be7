-- The free points of the cut box are the allowed points of the row with the shape, so the extreme coordinate of the one is that of the
-- other (`cut-extreme`, `cut-empty`). Assumes nothing.
use mathlib.Core.Path.{◌≡◌, sym, ap, ◌∙◌}
use mathlib.Core.Bool.{Bool, true, false, not, ◌&&◌}
use mathlib.Core.List.{List}
use mathlib.Core.Option.{Option, none, some}
use Prim.Native.Nat.{ℕ, ◌<◌}
use lib.IntN.{ℤ}
use Rattle.integers.proofs.Booleans.{clash, and-true}
use Rattle.sheet.specs.Layout.{axes}
use Rattle.sheet.specs.Allowed.{forbidden, allowed}
use Rattle.sheet.specs.Bounds.{Extreme, nowhere, there, least_of, greatest_of}
use Rattle.sheet.proofs.Extremes.{least-of, greatest-of, least-unique, greatest-unique}
use Rattle.points.specs.declared.Area.{Area}
use Rattle.points.specs.Area.{in_area}
use Rattle.region.specs.Rooms.{CutBox}
use Rattle.points.proofs.Areas.{none_in}
use Rattle.bounds.specs.Search.{Ahead, free_in, extreme_of}

-- a test that passes at the same points has the same extremes
extreme-same : {before : ℤ → ℤ → Type 0} {f g : List ℤ → Bool} {d : ℕ} (o : Option ℤ) → ((p : List ℤ) → f p ≡ g p) → Extreme before f d o
    → Extreme before g d o
extreme-same none same (nowhere h) = nowhere (λ p e. h p (same p ∙ e))
extreme-same (some z) same (there p e w h) = there p (sym (same p) ∙ e) w (λ q f. h q (same q ∙ f))

module _ (block : List ℤ) (t : List ℤ) (i s : ℕ) (a : Area) (cut : CutBox block t i s a) where
  pub cut-free : (p : List ℤ) → free_in block t i s a p ≡ allowed block t i s p
  unfolding free_in allowed
  cut-free p = ap (λ (b : Bool). b && not (forbidden block t i s p)) (cut.is p)

  -- the one extreme of the allowed points
  extreme-is : (flip : Bool) (d : ℕ) → d < axes block → (o : Option ℤ) → Extreme (Ahead flip) (allowed block t i s) d o
      → o ≡ extreme_of flip block t i s d
  unfolding extreme_of
  extreme-is true d h o x = greatest-unique o (greatest_of block t i s d) x (greatest-of block t i s d h)
  extreme-is false d h o x = least-unique o (least_of block t i s d) x (least-of block t i s d h)

  pub cut-extreme : (flip : Bool) (d : ℕ) → d < axes block → (o : Option ℤ) → Extreme (Ahead flip) (free_in block t i s a) d o
      → o ≡ extreme_of flip block t i s d
  cut-extreme flip d h o x = extreme-is flip d h o (extreme-same o cut-free x)

  pub cut-empty : (flip : Bool) (d : ℕ) → d < axes block → in_area (axes block) a a.low ≡ false → none ≡ extreme_of flip block t i s d
  unfolding free_in
  cut-empty flip d h e =
      cut-extreme flip d h none (nowhere (λ p f. clash (and-true {a = in_area (axes block) a p} f).0 (none_in (axes block) a e p)))
