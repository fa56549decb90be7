-- Solids: boxes, and hulls of shapes. Where they start and end in an outline. Assumes nothing.
use Rattle.std.specs.Prelude.{◌≡◌, ◌⊎◌, true, List, ℕ, ◌<◌, ℤ, pos, ◌+ℤ◌, ◌≤ℤ◌}
use Rattle.integers.specs.Integer.{minus, Within}
use Rattle.sheet.specs.Layout.{dims, boxes, is_of, offset, size}
use Rattle.sheet.specs.Accepted.{Boxed, Block}
use Rattle.outline.specs.declared.solid.Extent.{Extent}
use Rattle.outline.specs.Places.{hull_of, start_of, end_of}
use Rattle.outline.specs.Chain.{Chained, SoleBox}

-- no box of an accepted sheet starts or ends farther from its row's origin
abbrev pub far : ℕ
far = 20000

module _ (block : List ℤ) where
  -- a box of shape s before box n starts at z in dimension d, and one ends there
  pub record StartsAt (s d n : ℕ) (z : ℤ) : Type 0 where
    pub box : ℕ
    pub below : box < n
    pub is : is_of block box s ≡ true
    pub at : z ≡ offset block box d

  pub record EndsAt (s d n : ℕ) (z : ℤ) : Type 0 where
    pub box : ℕ
    pub below : box < n
    pub is : is_of block box s ≡ true
    pub at : z ≡ offset block box d +ℤ size block box d

  -- an extent in dimension d of the boxes of shape s before box n: it holds each of them, and each of its ends is one's, or past every box
  pub record Spans (s d n : ℕ) (x : Extent) : Type 0 where
    pub start_near : Within far x.start
    pub end_near : Within far x.end
    pub starts : (b : ℕ) → b < n → is_of block b s ≡ true → x.start ≤ℤ offset block b d
    pub ends : (b : ℕ) → b < n → is_of block b s ≡ true → (offset block b d +ℤ size block b d) ≤ℤ x.end
    pub starts_at : StartsAt s d n x.start ⊎ (x.start ≡ pos far)
    pub ends_at : EndsAt s d n x.end ⊎ (x.end ≡ minus far)

  module _ (o : List ℤ) where
    -- solid b is box b
    pub record IsBox (b : ℕ) : Type 0 where
      pub starts : (d : ℕ) → d < dims block → start_of o b d ≡ offset block b d
      pub ends : (d : ℕ) → d < dims block → end_of o b d ≡ offset block b d +ℤ size block b d

    abbrev pub Boxes : Type 0
    Boxes = (b : ℕ) → b < boxes block → IsBox b

    -- what the hull of shape s is made of: the shape's boxes as a chain, and where each starts and ends
    pub record Spanning (s : ℕ) : Type 0 where
      pub accepted : Block block
      pub chained : Chained block o
      pub boxes_of : Boxes
      pub shape : Boxed block s

    -- solid x lies in solid y
    pub record LiesIn (x y : ℕ) : Type 0 where
      pub starts : (d : ℕ) → d < dims block → start_of o y d ≤ℤ start_of o x d
      pub ends : (d : ℕ) → d < dims block → end_of o x d ≤ℤ end_of o y d

    -- a solid's bounds are near enough for sums
    pub record Modest (x : ℕ) : Type 0 where
      pub starts : (d : ℕ) → d < dims block → Within far (start_of o x d)
      pub ends : (d : ℕ) → d < dims block → Within far (end_of o x d)

    -- the hull of shape s holds its boxes, and starts and ends where one of them does: it is its box where it has one
    pub record Hull (s : ℕ) : Type 0 where
      pub modest : Modest (hull_of s)
      pub holds : (b : ℕ) → b < boxes block → is_of block b s ≡ true → LiesIn b (hull_of s)
      pub starts_at : (d : ℕ) → d < dims block → StartsAt s d (boxes block) (start_of o (hull_of s) d)
      pub ends_at : (d : ℕ) → d < dims block → EndsAt s d (boxes block) (end_of o (hull_of s) d)
      pub sole : (b : ℕ) → SoleBox block s b → LiesIn (hull_of s) b
