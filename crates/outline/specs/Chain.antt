-- The boxes of each shape as a chain: its first box, and from each box the next. Assumes nothing.
use Rattle.std.specs.Prelude.{◌≡◌, true, false, List, ℕ, ◌≤◌, ◌<◌, ℤ, Option, MatchOption}
use Rattle.integers.specs.Integer.{nat}
use Rattle.integers.specs.Words.{word}
use Rattle.sheet.specs.Layout.{boxes, is_of}
use Rattle.sheet.specs.Accepted.{Count, Head}
use Rattle.outline.specs.Places.{shapes_most, next_at, first_at}

module _ (block o : List ℤ) where
  -- the next box of box b's shape, and the first box of shape s; the number of boxes where there is none
  abbrev pub next_of : ℕ → ℕ
  next_of b = nat (word o (next_at b))

  abbrev pub first_box_of : ℕ → ℕ
  first_box_of s = nat (word o (first_at s))

  -- of the boxes from m on each link is to a box of the shape, and none of its boxes is passed over
  pub record ChainedFrom (m : ℕ) : Type 0 where
    pub first_count : (s : ℕ) → s < shapes_most → Count (word o (first_at s))
    pub first_from : (s : ℕ) → s < shapes_most → m ≤ first_box_of s
    pub first_upto : (s : ℕ) → s < shapes_most → first_box_of s ≤ boxes block
    pub first_is : (s : ℕ) → s < shapes_most → first_box_of s < boxes block → is_of block (first_box_of s) s ≡ true
    pub first_skips : (s b : ℕ) → s < shapes_most → m ≤ b → b < first_box_of s → is_of block b s ≡ false
    pub next_count : (b : ℕ) → m ≤ b → b < boxes block → Count (word o (next_at b))
    pub next_after : (b : ℕ) → m ≤ b → b < boxes block → b < next_of b
    pub next_upto : (b : ℕ) → m ≤ b → b < boxes block → next_of b ≤ boxes block
    pub next_is : (s b : ℕ) → m ≤ b → b < boxes block → is_of block b s ≡ true → next_of b < boxes block → is_of block (next_of b) s ≡ true
    pub next_skips : (s b c : ℕ) → m ≤ b → b < boxes block → is_of block b s ≡ true → b < c → c < next_of b → is_of block c s ≡ false

  -- every box is linked
  abbrev pub Chained : Type 0
  Chained = ChainedFrom 0

-- box b is one of shape s, in a block whose boxes are chained
pub record Linked (block o : List ℤ) (b s : ℕ) : Type 0 where
  pub head : Head block
  pub chained : Chained block o
  pub below : b < boxes block
  pub is : is_of block b s ≡ true

module _ (block : List ℤ) (s : ℕ) where
  -- no box from m on, up to box n, is one of shape s
  abbrev pub NoneFrom : ℕ → ℕ → Type 0
  NoneFrom m n = (c : ℕ) → m ≤ c → c < n → is_of block c s ≡ false

  -- box b is the first of shape s from box m on
  pub record IsFirstFrom (m b : ℕ) : Type 0 where
    pub from : m ≤ b
    pub below : b < boxes block
    pub is : is_of block b s ≡ true
    pub skips : NoneFrom m b

  -- x is the first box of shape s from box m on, or none where no box from m on is one of it
  abbrev pub FirstFrom : ℕ → Option ℕ → Type 0
  FirstFrom m x = MatchOption x (NoneFrom m (boxes block)) (IsFirstFrom m)

-- box b is the one box of shape s
pub record SoleBox (block : List ℤ) (s b : ℕ) : Type 0 where
  pub below : b < boxes block
  pub is : is_of block b s ≡ true
  pub only : (c : ℕ) → c < boxes block → is_of block c s ≡ true → c ≡ b

-- shape s has one box
pub record Sole (block : List ℤ) (s : ℕ) : Type 0 where
  pub box : ℕ
  pub sole : SoleBox block s box
