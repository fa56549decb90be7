-- What code may lean on in an accepted sheet: a bound for every count, index and word. `Block` speaks of the lent block alone, so
-- that it holds for every table on the way; narrowing and settling keep `Table`. Assumes nothing.
use Rattle.std.specs.Prelude.{◌≡◌, true, List, ℕ, ◌*◌, ◌≤◌, ◌<◌, length, ℤ, pos, ◌≤ℤ◌}
use Rattle.integers.specs.Integer.{nat, Within}
use Rattle.integers.specs.Words.{word}
use Rattle.sheet.specs.Layout.{axes_most, rows_most, dims, axes, boxes, rules, block_length, row_len, shape_of, offset, size, is_of, kind, dim_set}
use Rattle.sheet.specs.Layout.{is_non_overlap, is_containment, row_set, room_low, room_high, clearance}
use Rattle.sheet.specs.Layout.{names_dim, rows, shape_set, low, high, has_shape}

-- a word that is a count, an index or a set
pub record Count (z : ℤ) : Type 0 where
  pub from : pos 0 ≤ℤ z
  pub upto : z ≤ℤ pos 4294967295

-- checks 2 to 4 do not apply: every record lies whole in the block
pub record Head (block : List ℤ) : Type 0 where
  pub some_dims : 1 ≤ dims block
  pub few_dims : dims block ≤ 4
  pub some_axes : 1 ≤ axes block
  pub few_axes : axes block ≤ axes_most
  pub some_boxes : 1 ≤ boxes block
  pub few_boxes : boxes block ≤ 128
  pub few_rules : rules block ≤ 32
  pub long : length block ≡ block_length block
  pub counts : (at : ℕ) → at < 3 → Count (word block at)

-- checks 2 to 4, 6 and 7 do not apply
pub record Block (block : List ℤ) : Type 0 where
  pub head : Head block
  pub shapes : (b : ℕ) → b < boxes block → Count (shape_of block b)
  pub shapes_from : (b : ℕ) → b < boxes block → 1 ≤ nat (shape_of block b)
  pub shapes_upto : (b : ℕ) → b < boxes block → nat (shape_of block b) ≤ 32
  pub offsets : (b d : ℕ) → b < boxes block → d < dims block → Within 10000 (offset block b d)
  pub sizes : (b d : ℕ) → b < boxes block → d < dims block → Within 10000 (size block b d)
  pub sizes_from : (b d : ℕ) → b < boxes block → d < dims block → pos 1 ≤ℤ size block b d
  pub kinds : (r : ℕ) → r < rules block → Count (kind block r)
  pub dim_sets : (r : ℕ) → r < rules block → Count (dim_set block r)
  pub row_sets : (r : ℕ) → r < rules block → Count (row_set block r)
  pub room_lows : (r d : ℕ) → r < rules block → d < dims block → Within 1000000 (room_low block r d)
  pub room_highs : (r d : ℕ) → r < rules block → d < dims block → Within 1000000 (room_high block r d)
  pub rooms_ordered : (r d : ℕ) → r < rules block → d < dims block → is_containment block r ≡ true → names_dim block r d ≡ true
      → room_low block r d ≤ℤ room_high block r d
  pub clearances : (r d : ℕ) → r < rules block → d < dims block → Within 1000000 (clearance block r d)
  pub clearances_from : (r d : ℕ) → r < rules block → d < dims block → is_non_overlap block r ≡ true → pos 0 ≤ℤ clearance block r d

-- check 5 does not apply: every row lies whole in the table
pub record Rows (block : List ℤ) (table : List ℤ) : Type 0 where
  pub long : length table ≡ rows block table * row_len block
  pub some_rows : 1 ≤ rows block table
  pub few_rows : rows block table ≤ rows_most

-- a box of shape s
pub record Boxed (block : List ℤ) (s : ℕ) : Type 0 where
  pub box : ℕ
  pub below : box < boxes block
  pub is : is_of block box s ≡ true

-- checks 5 and 8 do not apply
pub record Table (block : List ℤ) (table : List ℤ) : Type 0 where
  pub whole : Rows block table
  pub sets_from : (i : ℕ) → 1 ≤ i → i ≤ rows block table → pos 1 ≤ℤ shape_set block table i
  pub sets_upto : (i : ℕ) → 1 ≤ i → i ≤ rows block table → shape_set block table i ≤ℤ pos 4294967295
  pub boxed : (i s : ℕ) → 1 ≤ i → i ≤ rows block table → has_shape block table i s ≡ true → Boxed block s
  pub lows : (i d : ℕ) → 1 ≤ i → i ≤ rows block table → d < axes block → Within 1000000 (low block table i d)
  pub highs : (i d : ℕ) → 1 ≤ i → i ≤ rows block table → d < axes block → Within 1000000 (high block table i d)
  pub ordered : (i d : ℕ) → 1 ≤ i → i ≤ rows block table → d < axes block → low block table i d ≤ℤ high block table i d
