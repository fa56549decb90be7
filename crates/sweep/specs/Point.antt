-- Points, boxes of points, and the operations on a point's words: one past each, the lesser words of two, the mirror image.
-- A point is a list of words; which of them a statement reads is said by the number k of dimensions.
-- Assumes nothing.
use Rattle.std.specs.Prelude.{Bool, true, false, ℕ, ◌<◌, ℤ, pos, neg_ℤ, ◌+ℤ◌, ◌≤ℤ◌}
use mathlib.Core.List.{List, map, zip_with}
use Rattle.integers.specs.Integer.{Within}
use Rattle.integers.specs.Words.{word}
use Rattle.points.specs.Area.{min_z}

-- p lies from low to high, both included, in the first k dimensions
pub record InBox (k : ℕ) (low high p : List ℤ) : Type 0 where
  pub from : (i : ℕ) → i < k → word low i ≤ℤ word p i
  pub upto : (i : ℕ) → i < k → word p i ≤ℤ word high i

-- 2 ^ 62: a number of at most this size has a successor and a negative that fit an i64
abbrev pub limit : ℕ
limit = 4611686018427387904

-- every word is of at most this size
pub record Near (p : List ℤ) : Type 0 where
  pub near : (i : ℕ) → Within limit (word p i)

-- one past a number, and each word of a point
abbrev pub next : ℤ → ℤ
next z = z +ℤ pos 1

unfoldable pub nexts : List ℤ → List ℤ
nexts p = map next p

-- the lesser words of two points
unfoldable pub lessers : List ℤ → List ℤ → List ℤ
lessers p q = zip_with min_z p q

-- ---- the mirror: where flip is set, a number, a point and a box are replaced by their negatives

unfoldable pub turn : Bool → ℤ → ℤ
turn true z = neg_ℤ z
turn false z = z

unfoldable pub mirror : List ℤ → List ℤ
mirror p = map neg_ℤ p

unfoldable pub turned : Bool → List ℤ → List ℤ
turned true p = mirror p
turned false p = p

-- the turned box of the points from low to high ends at turned_end flip low high, and starts at turned_end flip high low
unfoldable pub turned_end : Bool → List ℤ → List ℤ → List ℤ
turned_end true low high = mirror low
turned_end false low high = high
