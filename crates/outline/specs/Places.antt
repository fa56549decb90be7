-- The words of an outline: where each stands, and what it is to keep those before a place. Assumes nothing.
use Rattle.std.specs.Prelude.{◌≡◌, List, ℕ, ◌+◌, ◌*◌, ◌<◌, ℤ}
use Rattle.integers.specs.Words.{word}
use Rattle.points.specs.Area.{coordinates, area_words}

-- the most boxes of a block, and one more than its greatest shape number
abbrev pub boxes_most : ℕ
boxes_most = 128

abbrev pub shapes_most : ℕ
shapes_most = 33

-- the next box of box b's shape, the first box of shape s, and the set of the rules that count
abbrev pub next_at : ℕ → ℕ
next_at b = b

abbrev pub first_at : ℕ → ℕ
first_at s = boxes_most + s

abbrev pub rules_at : ℕ
rules_at = boxes_most + shapes_most

-- solids: the boxes, and after them the hulls of the shapes
abbrev pub solids : ℕ
solids = boxes_most + shapes_most

abbrev pub hull_of : ℕ → ℕ
hull_of s = boxes_most + s

-- the words of solid x: where it starts in each dimension, and where it ends
abbrev pub solid_len : ℕ
solid_len = area_words

abbrev pub solid_at : ℕ → ℕ
solid_at x = rules_at + 1 + solid_len * x

module _ (o : List ℤ) where
  abbrev pub start_of : ℕ → ℕ → ℤ
  start_of x d = word o (solid_at x + d)

  abbrev pub end_of : ℕ → ℕ → ℤ
  end_of x d = word o (solid_at x + d + coordinates)

-- the two runs have the same words before `at`
pub record SameTo (at : ℕ) (o o' : List ℤ) : Type 0 where
  pub words : (x : ℕ) → x < at → word o' x ≡ word o x
