-- Document 01, "The block and the table": where each word of a sheet stands, and the conditions on it, with the clearances of document 02's T-02.
-- Every definition is total, on any words of any length: past the end of a run stand zeros.
-- Boxes, rules and dimensions are counted from 0; rows and shapes have their numbers, from 1.
-- Assumes nothing.
use Rattle.std.specs.Prelude.{Bool, cond, ◌&&◌, ◌||◌, List, ℕ, zero, suc, ◌+◌, ◌-◌, ◌*◌, ◌/◌, ◌^◌, length, ℤ, pos}
use Rattle.std.specs.Int.Signed.{le_z}
use Rattle.integers.specs.Integer.{minus, nat, eq_z, within}
use Rattle.integers.specs.Below.{◌⇒◌, all_below, any_below, all_up_to}
use Rattle.integers.specs.Bits.{bit, holds, holds_only}
use Rattle.integers.specs.Words.{word}

-- ---- the limits that code makes room by: the most axes, since a point is four numbers, and rows; the most words of a record (a rule of
-- four dimensions), of a block and of a table
abbrev pub axes_most : ℕ
axes_most = 4

abbrev pub rows_most : ℕ
rows_most = 32

abbrev pub record_most : ℕ
record_most = 11

abbrev pub block_most : ℕ
block_most = 1507

abbrev pub table_most : ℕ
table_most = 288

-- and, where the first layout is looked for (T-06), of rows and of a table
abbrev pub layout_rows_most : ℕ
layout_rows_most = 8

abbrev pub layout_table_most : ℕ
layout_table_most = 72

module _ (block : List ℤ) where
  abbrev block_word : ℕ → ℤ
  block_word at = word block at

  -- k, B and R
  unfoldable pub dims : ℕ
  dims = nat (block_word 0)

  unfoldable pub boxes : ℕ
  boxes = nat (block_word 1)

  unfoldable pub rules : ℕ
  rules = nat (block_word 2)

  -- how many ranges a row has, and coordinates a point
  unfoldable pub axes : ℕ
  axes = dims

  -- the length of a record, and where one starts
  unfoldable pub box_len : ℕ
  box_len = 1 + 2 * dims

  unfoldable pub rule_len : ℕ
  rule_len = 3 + 2 * dims

  unfoldable pub row_len : ℕ
  row_len = 1 + 2 * axes

  unfoldable pub block_length : ℕ
  block_length = 3 + boxes * box_len + rules * rule_len

  unfoldable pub box_at : ℕ → ℕ
  box_at b = 3 + b * box_len

  unfoldable pub rule_at : ℕ → ℕ
  rule_at r = 3 + boxes * box_len + r * rule_len

  -- a row's number is checked (refusal 9) before its words are read: there is no row 0
  unfoldable pub row_at : ℕ → ℕ
  row_at zero = 0
  row_at (suc m) = m * row_len

  -- ---- box b: shape number, k offsets, k sizes
  unfoldable pub shape_of : ℕ → ℤ
  shape_of b = block_word (box_at b)

  unfoldable pub offset : ℕ → ℕ → ℤ
  offset b d = block_word (box_at b + 1 + d)

  unfoldable pub size : ℕ → ℕ → ℤ
  size b d = block_word (box_at b + 1 + dims + d)

  -- box b is one of shape s
  unfoldable pub is_of : ℕ → ℕ → Bool
  is_of b s = eq_z (shape_of b) (pos s)

  unfoldable pub valid_box : ℕ → Bool
  valid_box b =
      within (pos 1) (pos 32) (shape_of b)
      && all_below dims (λ d. within (minus 10000) (pos 10000) (offset b d) && within (pos 1) (pos 10000) (size b d))

  -- ---- rule r: kind, dimension set, row set, then a low and a high word for each dimension
  -- kind 1, the document's 'apart': non-overlap; kind 2, its 'inside': containment in a room
  unfoldable pub kind : ℕ → ℤ
  kind r = block_word (rule_at r)

  unfoldable pub is_non_overlap : ℕ → Bool
  is_non_overlap r = eq_z (kind r) (pos 1)

  unfoldable pub is_containment : ℕ → Bool
  is_containment r = eq_z (kind r) (pos 2)

  unfoldable pub dim_set : ℕ → ℤ
  dim_set r = block_word (rule_at r + 1)

  unfoldable pub row_set : ℕ → ℤ
  row_set r = block_word (rule_at r + 2)

  -- the low and the high word of dimension d: of kind 2 the ends of the room
  unfoldable pub room_low : ℕ → ℕ → ℤ
  room_low r d = block_word (rule_at r + 3 + 2 * d)

  unfoldable pub room_high : ℕ → ℕ → ℤ
  room_high r d = block_word (rule_at r + 4 + 2 * d)

  -- of kind 1 the low word is the clearance: how far from each other boxes stay
  unfoldable pub clearance : ℕ → ℕ → ℤ
  clearance r d = room_low r d

  unfoldable pub names_dim : ℕ → ℕ → Bool
  names_dim r d = bit (dim_set r) d

  unfoldable pub names_row : ℕ → ℕ → Bool
  names_row r i = holds (row_set r) i

  unfoldable pub valid_clearance : ℕ → ℕ → Bool
  valid_clearance r d = within (pos 0) (pos 1000) (clearance r d) && eq_z (room_high r d) (pos 0)

  -- the low and the high word of dimension d: a room where kind 2 names it, a clearance where kind 1 does, and else zeros
  unfoldable pub valid_ends : ℕ → ℕ → Bool
  valid_ends r d =
      cond (is_containment r && names_dim r d)
      (within (minus 1000000) (pos 1000000) (room_low r d)
      && within (minus 1000000) (pos 1000000) (room_high r d)
      && le_z (room_low r d) (room_high r d))
      (cond (names_dim r d) (valid_clearance r d) (eq_z (room_low r d) (pos 0) && eq_z (room_high r d) (pos 0)))

  -- in a sheet of n rows
  unfoldable pub valid_rule : ℕ → ℕ → Bool
  valid_rule n r =
      (is_non_overlap r || is_containment r)
      && within (pos 1) (pos (2 ^ dims - 1)) (dim_set r)
      && within (pos 1) (pos (2 ^ n - 1)) (row_set r)
      && all_below dims (valid_ends r)

  module _ (table : List ℤ) where
    -- n
    unfoldable pub rows : ℕ
    rows = length table / row_len

    -- ---- row i: shape set, then low and high of each dimension
    unfoldable pub shape_set : ℕ → ℤ
    shape_set i = word table (row_at i)

    unfoldable pub low : ℕ → ℕ → ℤ
    low i d = word table (row_at i + 1 + 2 * d)

    unfoldable pub high : ℕ → ℕ → ℤ
    high i d = word table (row_at i + 2 + 2 * d)

    unfoldable pub has_shape : ℕ → ℕ → Bool
    has_shape i s = holds (shape_set i) s

    -- the set holds exactly one shape, s
    unfoldable pub has_only : ℕ → ℕ → Bool
    has_only i s = holds_only (shape_set i) s

    -- box b is one of a shape in the set
    unfoldable pub of_row : ℕ → ℕ → Bool
    of_row i b = has_shape i (nat (shape_of b))

    unfoldable pub valid_row : ℕ → Bool
    valid_row i =
        within (pos 1) (pos (2 ^ 32 - 1)) (shape_set i)
        && all_up_to 32 (λ s. has_shape i s ⇒ any_below boxes (λ b. is_of b s))
        && all_below axes (λ d.
        within (minus 1000000) (pos 1000000) (low i d)
        && within (minus 1000000) (pos 1000000) (high i d)
        && le_z (low i d) (high i d))

-- one name that opens every definition above: `unfolding layout`
unfoldable pub layout : Unit {0}
unfolding dims boxes rules axes box_len rule_len row_len block_length box_at rule_at row_at shape_of offset size is_of valid_box kind
    is_non_overlap is_containment dim_set row_set room_low room_high clearance names_dim names_row valid_clearance valid_ends
    valid_rule rows shape_set low high has_shape has_only of_row valid_row
layout = tt
