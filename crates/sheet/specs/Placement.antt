-- Document 01, "What is allowed": a fixed placement, and when it is good; and the same by the non-overlap of the Global
-- Constraint Catalogue (document 003), with T-02's clearances, and the room rules. That the two agree is mission demand 2
-- (proofs/Catalogue.antt).
-- Assumes nothing.
use Rattle.std.specs.Prelude.{Bool, ◌&&◌, ◌||◌, List, ℕ, ltb, ℤ, ◌+ℤ◌}
use Rattle.std.specs.Int.Signed.{le_z}
use Rattle.integers.specs.Integer.{eq_z}
use Rattle.integers.specs.Below.{◌⇒◌, all_below, any_below, all_up_to, any_up_to}
use Rattle.integers.specs.Words.{list_below}
use Rattle.sheet.specs.Layout.{dims, boxes, rules, axes, offset, size, is_of, is_non_overlap, clearance, names_dim, names_row}
use Rattle.sheet.specs.Layout.{rows, low, high, has_shape, has_only}
use Rattle.sheet.specs.Allowed.{rooms_hold, allowed}

module _ (block : List ℤ) (table : List ℤ) where
  -- the set of row i has one shape, and each range one number
  unfoldable pub row_fixed : ℕ → Bool
  row_fixed i = any_up_to 32 (has_only block table i) && all_below (axes block) (λ d. eq_z (low block table i d) (high block table i d))

  unfoldable pub fixed : Bool
  fixed = all_up_to (rows block table) row_fixed

  -- a fixed row's point
  unfoldable pub point_of : ℕ → List ℤ
  point_of i = list_below (axes block) (low block table i)

  -- each row's point is allowed
  unfoldable pub good : Bool
  good = all_up_to (rows block table) (λ i. all_up_to 32 (λ s. has_shape block table i s ⇒ allowed block table i s (point_of i)))

  -- ---- the catalogue

  -- where box b of row i starts and ends
  unfoldable pub box_start : ℕ → ℕ → ℕ → ℤ
  box_start i b d = low block table i d +ℤ offset block b d

  unfoldable pub box_end : ℕ → ℕ → ℕ → ℤ
  box_end i b d = low block table i d +ℤ offset block b d +ℤ size block b d

  -- in dimension d, box b of row i starts at or past the end of box c of row j plus rule r's clearance
  unfoldable pub is_past : ℕ → ℕ → ℕ → ℕ → ℕ → ℕ → Bool
  is_past r i b j c d = le_z (box_end j c d +ℤ clearance block r d) (box_start i b d)

  -- the two boxes are clear of each other in dimension d: one is past the other
  unfoldable pub clear : ℕ → ℕ → ℕ → ℕ → ℕ → ℕ → Bool
  clear r i b j c d = is_past r i b j c d || is_past r j c i b d

  -- in some dimension that rule r names
  unfoldable pub boxes_clear : ℕ → ℕ → ℕ → ℕ → ℕ → Bool
  boxes_clear r i b j c = any_below (dims block) (λ d. names_dim block r d && clear r i b j c d)

  -- each box of row i and each box of row j
  unfoldable pub no_overlap : ℕ → ℕ → ℕ → Bool
  no_overlap r i j =
      all_up_to 32 (λ s. has_shape block table i s ⇒ all_up_to 32 (λ s'. has_shape block table j s' ⇒
      all_below (boxes block) (λ b. is_of block b s ⇒ all_below (boxes block) (λ c. is_of block c s' ⇒ boxes_clear r i b j c))))

  -- each two rows that a kind 1 rule names
  unfoldable pub none_overlap : Bool
  none_overlap =
      all_below (rules block) (λ r. is_non_overlap block r ⇒
      all_up_to (rows block table) (λ j. names_row block r j ⇒
      all_up_to (rows block table) (λ i. ltb i j && names_row block r i ⇒ no_overlap r i j)))

  -- every room rule
  unfoldable pub all_contained : Bool
  all_contained = all_up_to (rows block table) (λ i. all_up_to 32 (λ s. has_shape block table i s ⇒ rooms_hold block i s (point_of i)))

  unfoldable pub catalogue_good : Bool
  catalogue_good = none_overlap && all_contained

-- one name that opens every definition above: `unfolding placing`
unfoldable pub placing : Unit {0}
unfolding row_fixed fixed point_of good box_start box_end is_past clear boxes_clear no_overlap none_overlap all_contained catalogue_good
placing = tt
