-- Areas: boxes of points, given by a low and a high point. Which points an area holds, and what it is to cut one down.
-- Assumes nothing.
use Rattle.std.specs.Prelude.{◌≡◌, Bool, ◌&&◌, List, ℕ, ◌+◌, ◌<◌, ℤ, pos, replicate, drop}
use Rattle.integers.specs.Integer.{minus, within, Within}
pub use Rattle.integers.specs.Integer.{max_z, min_z}
use Rattle.integers.specs.Below.{all_below}
use Rattle.integers.specs.Words.{word, list_below}
use Rattle.sheet.specs.Layout.{axes_most}
use Rattle.points.specs.declared.Area.{Area}

-- how many coordinates an array of a point holds; a sheet's points use the first k of them
abbrev pub coordinates : ℕ
coordinates = axes_most

-- no bound of an area is farther from 0
abbrev pub reach : ℕ
reach = 3000000

abbrev pub area_by : List ℤ → List ℤ → Area
area_by low high = record { low = low; high = high }

-- z lies in the area in dimension d
unfoldable pub in_at : Area → ℕ → ℤ → Bool
in_at a d z = within (word a.low d) (word a.high d) z

-- p lies in the area, in each of the first k dimensions
unfoldable pub in_area : ℕ → Area → List ℤ → Bool
in_area k a p = all_below k (λ d. in_at a d (word p d))

-- every bound is within reach, so that sums of bounds fit an i64
pub record Small (a : Area) : Type 0 where
  pub lows : (d : ℕ) → Within reach (word a.low d)
  pub highs : (d : ℕ) → Within reach (word a.high d)

-- what one dimension is cut to
pub record CutTo (d : ℕ) (low high : ℤ) : Type 0 where
  pub below : d < coordinates
  pub low_near : Within reach low
  pub high_near : Within reach high

-- c is a, cut down to the points that pass a test
pub record Cuts (k : ℕ) (a c : Area) (F : List ℤ → Bool) : Type 0 where
  pub is : (p : List ℤ) → in_area k c p ≡ (in_area k a p && F p)
  pub small : Small a → Small c

-- a point's first k coordinates are within reach
pub record InField (k : ℕ) (p : List ℤ) : Type 0 where
  pub near : (d : ℕ) → d < k → Within reach (word p d)

-- the area of those points
unfoldable pub field_area : Area
field_area = record { low = replicate coordinates (minus reach); high = replicate coordinates (pos reach) }

-- an area as a run of words: its low point, then its high point
abbrev pub area_words : ℕ
area_words = coordinates + coordinates

unfoldable pub area_of : List ℤ → Area
area_of words = area_by (list_below coordinates (word words)) (list_below coordinates (λ d. word words (coordinates + d)))

-- the area whose words stand from `at` on in a longer run
abbrev pub area_at : List ℤ → ℕ → Area
area_at words at = area_of (drop at words)
