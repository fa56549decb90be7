-- An area that a loop over the dimensions fills in: below dimension n it is the field cut by a test of each dimension, and from n on its
-- bounds are the field's. Assumes nothing.
use mathlib.Core.Path.{◌≡◌, refl, sym, ap, ◌∙◌, subst}
use mathlib.Core.Bool.{Bool, true, false, cond}
use mathlib.Core.List.{List}
use Prim.Native.Nat.{ℕ, ◌+◌, ◌≤◌, ◌<◌}
use native.Mathlib.Omega.{arith}
use lib.IntN.{ℤ, pos}
use lib.ListN.{length, set, length-replicate, get_or-replicate}
use lib.Seq.{get_or-set_other}
use lib.Signed.{le_z}
use Rattle.integers.specs.Integer.{minus, within, Within}
use Rattle.integers.specs.Below.{all_below}
use Rattle.integers.specs.Words.{word}
use Rattle.integers.proofs.Ints.{ints}
use Rattle.integers.proofs.Machine.{from-within}
use Rattle.points.specs.declared.Area.{Area}
use Rattle.points.specs.Area.{coordinates, reach, area_words, max_z, min_z, Cuts, field_area, area_of}
use Rattle.points.specs.Ends.{EndsAre}
use Rattle.points.proofs.Cut.{cuts-none, cuts-same, cuts-zero, cuts-more, cuts-one}
use Rattle.points.proofs.Runs.{low-long, high-long, ends-are, ends_set}

pub record Fills (k n : ℕ) (a : Area) (F : ℕ → List ℤ → Bool) : Type 0 where
  pub cuts : Cuts k field_area a (λ p. all_below n (λ d. F d p))
  pub lows : (d : ℕ) → n ≤ d → d < coordinates → word a.low d ≡ minus reach
  pub highs : (d : ℕ) → n ≤ d → d < coordinates → word a.high d ≡ pos reach

pub fills-none : {k : ℕ} (F : ℕ → List ℤ → Bool) → Fills k 0 field_area F
unfolding field_area
fills-none F = record {
  cuts = cuts-zero F;
  lows = λ d h l. get_or-replicate coordinates d (minus reach) (pos 0) l;
  highs = λ d h l. get_or-replicate coordinates d (pos reach) (pos 0) l;
}

module _ {k n : ℕ} {a : Area} (F : ℕ → List ℤ → Bool) (f : Fills k n a F) where
  -- a dimension that every point passes
  pub fills-skip : ((p : List ℤ) → F n p ≡ true) → Fills k (n + 1) a F
  fills-skip e = record {
    cuts = cuts-more F f.cuts (cuts-none e);
    lows = λ d h l. f.lows d (omega arith) l;
    highs = λ d h l. f.highs d (omega arith) l;
  }

  -- one whose bounds are set
  module _ {x y : ℤ} (bx : Within reach x) (by : Within reach y) where
    max-is : {z : ℤ} → z ≡ minus reach → x ≡ max_z z x
    max-is {z} e =
        let w = from-within bx in
        let t : le_z z x ≡ true = omega ints in
        sym (ap (λ (b : Bool). cond b x z) t)

    min-is : {z : ℤ} → z ≡ pos reach → y ≡ min_z z y
    min-is {z} e = pick (le_z z y) refl
      where
        pick : (t : Bool) → le_z z y ≡ t → y ≡ cond t z y
        pick true h = let w = from-within by in omega ints
        pick false h = refl

    pub fills-set : n < coordinates → n < k → length a.low ≡ coordinates → length a.high ≡ coordinates
        → ((p : List ℤ) → within x y (word p n) ≡ F n p) → Fills k (n + 1) (record { low = set a.low n x; high = set a.high n y }) F
    fills-set h l nl nh e = record {
      cuts = cuts-more F f.cuts (cuts-same e
          (cuts-one a n x y (omega arith) (omega arith) (max-is (f.lows n (omega arith) h)) (min-is (f.highs n (omega arith) h)) bx by l));
      lows = λ d g u. get_or-set_other a.low n d x (pos 0) (λ q. omega arith) ∙ f.lows d (omega arith) u;
      highs = λ d g u. get_or-set_other a.high n d y (pos 0) (λ q. omega arith) ∙ f.highs d (omega arith) u;
    }

-- ---- an area as a run of words: the field, and one more dimension
pub fills-ends-at : {k : ℕ} {words : List ℤ} (F : ℕ → List ℤ → Bool) → EndsAre (minus reach) (pos reach) words → Fills k 0 (area_of words) F
unfolding field_area
fills-ends-at {k} {words} F h =
    let is : area_of words ≡ field_area = ends-are words field_area
    (length-replicate coordinates (minus reach)) (length-replicate coordinates (pos reach))
    (λ d l. h false d l ∙ sym (get_or-replicate coordinates d (minus reach) (pos 0) l))
    (λ d l. h true d l ∙ sym (get_or-replicate coordinates d (pos reach) (pos 0) l)) in
    subst (λ (a : Area). Fills k 0 a F) (sym is) (fills-none F)

pub fills-ends : {k n : ℕ} (words : List ℤ) (F : ℕ → List ℤ → Bool) {x y : ℤ} → Fills k n (area_of words) F → length words ≡ area_words
    → n < coordinates → n < k → Within reach x → Within reach y → ((p : List ℤ) → within x y (word p n) ≡ F n p)
    → Fills k (n + 1) (area_of (set (set words n x) (coordinates + n) y)) F
fills-ends {k} {n} words F {x} {y} f long h l bx by e =
    subst (λ (a : Area). Fills k (n + 1) a F) (ends_set words n long h x y)
    (fills-set F f bx by h l (low-long words) (high-long words) e)
