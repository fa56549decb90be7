-- The least and the greatest coordinate of the points at which a row is allowed with a shape (mission demand 2): first as
-- statements about any finding, then as definitions that try every point of the row's ranges. That the definitions
-- find what the statements ask is proofs/Extremes.antt. Assumes nothing.
use Rattle.std.specs.Prelude.{◌≡◌, Bool, true, ◌&&◌, List, [], ◌∷◌, ℕ, zero, suc, ℤ, pos, ◌+ℤ◌, ◌≤ℤ◌}
use Rattle.std.proofs.Math.Option.{Option, none, some}
use Rattle.integers.specs.Integer.{eq_z, width}
use Rattle.integers.specs.Below.{any_below, least_below, greatest_below}
use Rattle.integers.specs.Words.{word}
use Rattle.sheet.specs.Layout.{axes, low, high}
use Rattle.sheet.specs.Allowed.{allowed}

-- none: no point passes f; some z: a point that passes has z for its coordinate in dimension d, and each such point lies at
-- or past z, in the order `before` (≤ for the least, ≥ for the greatest)
pub data Extreme (before : ℤ → ℤ → Type 0) (f : List ℤ → Bool) (d : ℕ) : Option ℤ → Type 0 where
  nowhere : ((p : List ℤ) → f p ≡ true → ⊥) → Extreme before f d none
  there : {z : ℤ} (p : List ℤ) → f p ≡ true → word p d ≡ z → ((q : List ℤ) → f q ≡ true → before z (word q d)) → Extreme before f d (some z)

abbrev pub Least : (List ℤ → Bool) → ℕ → Option ℤ → Type 0
Least f d o = Extreme (λ a b. a ≤ℤ b) f d o

abbrev pub Greatest : (List ℤ → Bool) → ℕ → Option ℤ → Type 0
Greatest f d o = Extreme (λ a b. b ≤ℤ a) f d o

-- a + c, where there is a c
unfoldable pub above : ℤ → Option ℕ → Option ℤ
above a none = none
above a (some c) = some (a +ℤ pos c)

module _ (block : List ℤ) (table : List ℤ) where
  -- f passes at some point whose coordinates below dimension m lie in row i's ranges, those from m on being p
  unfoldable pub point_from : ℕ → (List ℤ → Bool) → ℕ → List ℤ → Bool
  point_from i f zero p = f p
  point_from i f (suc m) p =
      any_below (width (low block table i m) (high block table i m)) (λ c. point_from i f m ((low block table i m +ℤ pos c) ∷ p))

  -- f passes at some point of row i's ranges
  unfoldable pub some_point : ℕ → (List ℤ → Bool) → Bool
  some_point i f = point_from i f (axes block) []

  -- at one whose coordinate in dimension d is z
  unfoldable pub reaches : ℕ → (List ℤ → Bool) → ℕ → ℤ → Bool
  reaches i f d z = some_point i (λ p. eq_z (word p d) z && f p)

  -- the numbers of row i's range in dimension d are tried in turn
  unfoldable pub least_by : ℕ → (List ℤ → Bool) → ℕ → Option ℤ
  least_by i f d =
      above (low block table i d)
      (least_below (width (low block table i d) (high block table i d)) (λ c. reaches i f d (low block table i d +ℤ pos c)))

  unfoldable pub greatest_by : ℕ → (List ℤ → Bool) → ℕ → Option ℤ
  greatest_by i f d =
      above (low block table i d)
      (greatest_below (width (low block table i d) (high block table i d)) (λ c. reaches i f d (low block table i d +ℤ pos c)))

  -- of row i with shape s in dimension d
  unfoldable pub least_of : ℕ → ℕ → ℕ → Option ℤ
  least_of i s d = least_by i (allowed block table i s) d

  unfoldable pub greatest_of : ℕ → ℕ → ℕ → Option ℤ
  greatest_of i s d = greatest_by i (allowed block table i s) d

-- one name that opens every definition above: `unfolding bounding`
unfoldable pub bounding : Unit {0}
unfolding above point_from some_point reaches least_by greatest_by least_of greatest_of
bounding = tt
