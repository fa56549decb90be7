-- Document 01, "Grounds for turning a sheet away, in checking order": the checks 2 to 12, and of document 02 13 to 15 (T-03) and 16 (T-06); the first
-- that applies for each kind of call (a refusal is the document's ground; 0 means that none applies), and the row slice. Row, shape, dimension
-- and rule that are asked about are words; they are read as numbers once their checks have passed. Check 1 is in Text.antt. Assumes nothing.
use Rattle.std.specs.Prelude.{Bool, true, false, not, ◌&&◌, ◌||◌, List, [], ◌∷◌, ℕ, zero, suc, ◌*◌, eqb, leb, ltb, length, get_or, take, drop, ℤ, pos}
use Rattle.std.specs.Int.Signed.{le_z, lt_z}
use Rattle.integers.specs.Integer.{nat, within}
use Rattle.integers.specs.Below.{all_below, all_up_to}
use Rattle.integers.specs.Words.{word}
use Rattle.sheet.specs.declared.Refusal.{Refusal}
use Rattle.sheet.specs.declared.Refusal.TheVariants as G
use Rattle.sheet.specs.Layout.{layout_rows_most, dims, axes, boxes, rules, row_len, block_length}
use Rattle.sheet.specs.Layout.{row_at, valid_box, valid_rule, rows, has_shape, valid_row}
use Rattle.sheet.specs.Placement.{fixed, good}
use Rattle.sheet.specs.Fill.{rule_asked, is_fill_rule, room_cells}

-- a refusal's number
unfoldable pub refusal_number : Refusal → ℕ
refusal_number G.BadText = 1
refusal_number G.BadHead = 2
refusal_number G.BadCounts = 3
refusal_number G.BadBlockLength = 4
refusal_number G.BadTableLength = 5
refusal_number G.BadBox = 6
refusal_number G.BadRule = 7
refusal_number G.BadRow = 8
refusal_number G.NoSuchRow = 9
refusal_number G.NoSuchShape = 10
refusal_number G.NoSuchDim = 11
refusal_number G.NotFixed = 12
refusal_number G.NoFillRule = 13
refusal_number G.BadCells = 14
refusal_number G.NotGood = 15
refusal_number G.TooManyRows = 16

-- the refusals in the order of their numbers, and the one with number n + 1
unfoldable pub grounds : List Refusal
grounds =
    G.BadText ∷ G.BadHead ∷ G.BadCounts ∷ G.BadBlockLength ∷ G.BadTableLength ∷ G.BadBox ∷ G.BadRule ∷ G.BadRow
    ∷ G.NoSuchRow ∷ G.NoSuchShape ∷ G.NoSuchDim ∷ G.NotFixed ∷ G.NoFillRule ∷ G.BadCells ∷ G.NotGood ∷ G.TooManyRows ∷ []

unfoldable pub ground : ℕ → Refusal
ground n = get_or grounds n G.TooManyRows

-- a refusal's number where its check applies, and 0 where it does not
infix 20 ◌when◌
unfoldable pub ◌when◌ : ℕ → Bool → ℕ
n when true = n
n when false = 0

-- the first refusal of two
infixr 15 ◌else◌
unfoldable pub ◌else◌ : ℕ → ℕ → ℕ
zero else h = h
suc g else h = suc g

module _ (block : List ℤ) where
  -- 2: fewer than 3 words, or k outside 1 to 4
  unfoldable pub bad_head : Bool
  bad_head = ltb (length block) 3 || not (within (pos 1) (pos 4) (word block 0))

  -- 3: B or R outside its range
  unfoldable pub bad_counts : Bool
  bad_counts = not (within (pos 1) (pos 128) (word block 1) && within (pos 0) (pos 32) (word block 2))

  -- 4
  unfoldable pub bad_block_length : Bool
  bad_block_length = not (eqb (length block) (block_length block))

  -- 6
  unfoldable pub bad_box : Bool
  bad_box = not (all_below (boxes block) (valid_box block))

  -- 11 of a relation (T-01): the dimension asked about is none of the boxes', 0 to k − 1
  unfoldable pub no_box_dim : ℤ → Bool
  no_box_dim dim = not (le_z (pos 0) dim && lt_z dim (pos (dims block)))

  -- 13 (T-03): the rule asked about is none, or not one of kind 2 that names every dimension
  unfoldable pub no_fill_rule : ℤ → Bool
  no_fill_rule rule = not (within (pos 1) (pos (rules block)) rule && is_fill_rule block (rule_asked rule))

  -- 14: its room has no cells or more than 4,096
  unfoldable pub bad_cells : ℕ → Bool
  bad_cells r = not (leb 1 (room_cells block r) && leb (room_cells block r) 4096)

  module _ (table : List ℤ) where
    -- 5: not n(1 + 2k) words with n from 1 to 32
    unfoldable pub bad_table_length : Bool
    bad_table_length = not (eqb (length table) (rows block table * row_len block) && leb 1 (rows block table) && leb (rows block table) 32)

    -- 7
    unfoldable pub bad_rule : Bool
    bad_rule = not (all_below (rules block) (valid_rule block (rows block table)))

    -- 8
    unfoldable pub bad_row : Bool
    bad_row = not (all_up_to (rows block table) (valid_row block table))

    -- 9: the row asked about is outside 1 to n
    unfoldable pub no_such_row : ℤ → Bool
    no_such_row row = not (within (pos 1) (pos (rows block table)) row)

    -- 10: the shape asked about is not in that row's set
    unfoldable pub no_such_shape : ℤ → ℤ → Bool
    no_such_shape row shape = not (has_shape block table (nat row) (nat shape))

    -- 11: the dimension asked about is outside 0 to k − 1
    unfoldable pub no_such_dim : ℤ → Bool
    no_such_dim dim = not (le_z (pos 0) dim && lt_z dim (pos (axes block)))

    -- 12: the placement is not fixed
    unfoldable pub not_fixed : Bool
    not_fixed = not (fixed block table)

    -- 15: the placement is not good
    unfoldable pub not_good : Bool
    not_good = not (good block table)

    -- 16: more than eight rows
    unfoldable pub too_many_rows : Bool
    too_many_rows = ltb layout_rows_most (rows block table)

    -- ---- the first that applies: for a call that is given a sheet
    unfoldable pub refusal : ℕ
    refusal =
        2 when bad_head else 3 when bad_counts else 4 when bad_block_length else 5 when bad_table_length
        else 6 when bad_box else 7 when bad_rule else 8 when bad_row

    -- and a row
    unfoldable pub refusal_row : ℤ → ℕ
    refusal_row row = refusal else 9 when no_such_row row

    -- and a row and a shape
    unfoldable pub refusal_shape : ℤ → ℤ → ℕ
    refusal_shape row shape = refusal_row row else 10 when no_such_shape row shape

    -- and a row, a shape and a dimension
    unfoldable pub refusal_dim : ℤ → ℤ → ℤ → ℕ
    refusal_dim row shape dim = refusal_shape row shape else 11 when no_such_dim dim

    -- and judges a placement
    unfoldable pub refusal_placement : ℕ
    refusal_placement = refusal else 12 when not_fixed

    -- and two rows and a dimension of their boxes, in a placement (T-01)
    unfoldable pub refusal_relation : ℤ → ℤ → ℤ → ℕ
    refusal_relation row other dim =
        refusal_row row else 9 when no_such_row other else 11 when no_box_dim dim else 12 when not_fixed

    -- and a rule, whose fill is asked in a placement (T-03)
    unfoldable pub refusal_fill : ℤ → ℕ
    refusal_fill rule = refusal_placement else 13 when no_fill_rule rule else 14 when bad_cells (rule_asked rule) else 15 when not_good

    -- and is to be laid out whole (T-06)
    unfoldable pub refusal_layout : ℕ
    refusal_layout = refusal else 16 when too_many_rows

    -- ---- the row slice: the part of the table where the row stands; empty when refused
    unfoldable pub slice_unless : ℕ → ℕ → List ℤ
    slice_unless zero i = take (row_len block) (drop (row_at block i) table)
    slice_unless (suc g) i = []

    unfoldable pub row_slice : ℤ → List ℤ
    row_slice row = slice_unless (refusal_row row) (nat row)

    -- where it starts; 0 when refused
    unfoldable pub start_unless : ℕ → ℕ → ℕ
    start_unless zero i = row_at block i
    start_unless (suc g) i = 0

    unfoldable pub row_start : ℤ → ℕ
    row_start row = start_unless (refusal_row row) (nat row)

-- one name that opens every definition above: `unfolding refusing`
unfoldable pub refusing : Unit {0}
unfolding refusal_number grounds ground ◌when◌ ◌else◌ bad_head bad_counts bad_block_length bad_box no_box_dim no_fill_rule bad_cells bad_table_length bad_rule bad_row no_such_row
    no_such_shape no_such_dim not_fixed not_good too_many_rows refusal refusal_row refusal_shape refusal_dim refusal_placement refusal_relation
    refusal_fill refusal_layout slice_unless row_slice start_unless row_start
refusing = tt
