-- Document 01, "What is allowed", with document 02's T-02 (clearances) and T-05 (rows with several shapes): the points at which a row may
-- stand with a shape.
-- A point is a list of coordinates, one for each dimension; those from the last dimension on are not read.
-- Assumes nothing.
use Rattle.std.specs.Prelude.{Bool, not, ◌&&◌, List, ℕ, eqb, ℤ, pos, ◌+ℤ◌, ◌-ℤ◌}
use Rattle.std.specs.Int.Signed.{le_z}
use Rattle.integers.specs.Integer.{within}
use Rattle.integers.specs.Below.{◌⇒◌, all_below, any_below, all_up_to, any_up_to}
use Rattle.integers.specs.Words.{word}
use Rattle.sheet.specs.Layout.{dims, boxes, rules, axes, offset, size, is_of, is_non_overlap, is_containment, room_low}
use Rattle.sheet.specs.Layout.{room_high, clearance, names_dim, names_row, rows, low, high, has_shape}

module _ (block : List ℤ) where
  -- ---- rooms (kind 2)

  -- box b, of a row at p, lies in rule r's room in every named dimension
  unfoldable pub box_contained : ℕ → ℕ → List ℤ → Bool
  box_contained r b p =
      all_below (dims block) (λ d. names_dim block r d ⇒
      le_z (room_low block r d) (word p d +ℤ offset block b d)
      && le_z (word p d +ℤ offset block b d +ℤ size block b d) (room_high block r d))

  -- every box of shape s, for every room rule that names row i
  unfoldable pub rooms_hold : ℕ → ℕ → List ℤ → Bool
  rooms_hold i s p =
      all_below (rules block) (λ r. is_containment block r && names_row block r i ⇒
      all_below (boxes block) (λ b. is_of block b s ⇒ box_contained r b p))

  module _ (table : List ℤ) where
    unfoldable pub in_ranges : ℕ → List ℤ → Bool
    in_ranges i p = all_below (axes block) (λ d. within (low block table i d) (high block table i d) (word p d))

    -- ---- non-overlap (kind 1)

    -- the first and the last number that rule r, by box c of row j, forbids to row i with box b in dimension d:
    -- max + t' − t − l + 1 − g and min + t' + l' − t − 1 + g, where g is the rule's clearance
    unfoldable pub forbid_from : ℕ → ℕ → ℕ → ℕ → ℕ → ℕ → ℤ
    forbid_from r i b j c d = high block table j d +ℤ offset block c d -ℤ offset block b d -ℤ size block b d +ℤ pos 1 -ℤ clearance block r d

    unfoldable pub forbid_to : ℕ → ℕ → ℕ → ℕ → ℕ → ℕ → ℤ
    forbid_to r i b j c d = low block table j d +ℤ offset block c d +ℤ size block c d -ℤ offset block b d -ℤ pos 1 +ℤ clearance block r d

    -- the same pair of boxes in every dimension that rule r names
    unfoldable pub pair_forbids : ℕ → List ℤ → ℕ → ℕ → ℕ → ℕ → Bool
    pair_forbids r p i b j c =
        all_below (dims block) (λ d. names_dim block r d ⇒ within (forbid_from r i b j c d) (forbid_to r i b j c d) (word p d))

    -- one box of s and one box of s' are enough
    unfoldable pub shapes_forbid : ℕ → List ℤ → ℕ → ℕ → ℕ → ℕ → Bool
    shapes_forbid r p i s j s' =
        any_below (boxes block) (λ b. is_of block b s && any_below (boxes block) (λ c. is_of block c s' && pair_forbids r p i b j c))

    -- every shape s' in row j's set, each by a pair of boxes of its own
    unfoldable pub set_forbids : ℕ → List ℤ → ℕ → ℕ → ℕ → Bool
    set_forbids r p i s j = all_up_to 32 (λ s'. has_shape block table j s' ⇒ shapes_forbid r p i s j s')

    -- rule r names row j, which is another row than i
    unfoldable pub row_forbids : ℕ → List ℤ → ℕ → ℕ → ℕ → Bool
    row_forbids r p i s j = not (eqb i j) && names_row block r j && set_forbids r p i s j

    unfoldable pub forbidden : ℕ → ℕ → List ℤ → Bool
    forbidden i s p =
        any_below (rules block) (λ r. is_non_overlap block r && names_row block r i && any_up_to (rows block table) (row_forbids r p i s))

    -- ---- row i with shape s at point p
    unfoldable pub allowed : ℕ → ℕ → List ℤ → Bool
    allowed i s p = in_ranges i p && rooms_hold i s p && not (forbidden i s p)

-- one name that opens every definition above: `unfolding allowing`
unfoldable pub allowing : Unit {0}
unfolding box_contained rooms_hold in_ranges forbid_from forbid_to pair_forbids shapes_forbid set_forbids row_forbids forbidden allowed
allowing = tt
