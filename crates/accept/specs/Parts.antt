-- Parts of the tests of a box, a rule and a row (crates/sheet/specs/Layout.antt) that the code computes one by one; the flags of the shapes
-- that have a box; and what the first parts leave of a rule and of a row (`SetRule`, `SetRow`). Assumes nothing.
use Rattle.std.specs.Prelude.{◌≡◌, Bool, false, ◌&&◌, List, ℕ, ◌<◌, ℤ, pos, get_or}
use Rattle.std.specs.Int.Signed.{le_z}
use Rattle.integers.specs.Integer.{minus, eq_z, within}
use Rattle.integers.specs.Below.{◌⇒◌, any_below}
use Rattle.sheet.specs.Layout.{boxes, offset, size, is_of, kind, dim_set, low, high, shape_set, has_shape}
use Rattle.sheet.specs.Accepted.{Count}
use Rattle.words.specs.declared.Place.{Place}
use Rattle.words.specs.Places.{RulePlace, RowPlace}

-- the offset and the size of box b in dimension d
abbrev pub valid_extent : List ℤ → ℕ → ℕ → Bool
valid_extent block b d = within (minus 10000) (pos 10000) (offset block b d) && within (pos 1) (pos 10000) (size block b d)

-- the low and the high word of a row's range, or of a room
abbrev pub valid_range : ℤ → ℤ → Bool
valid_range a b = within (minus 1000000) (pos 1000000) a && within (minus 1000000) (pos 1000000) b && le_z a b

-- range d of row i
abbrev pub valid_row_range : List ℤ → List ℤ → ℕ → ℕ → Bool
valid_row_range block table i d = valid_range (low block table i d) (high block table i d)

abbrev pub fixed_range : List ℤ → List ℤ → ℕ → ℕ → Bool
fixed_range block table i d = eq_z (low block table i d) (high block table i d)

-- shape s has a box
abbrev pub boxed : List ℤ → ℕ → Bool
boxed block s = any_below (boxes block) (λ b. is_of block b s)

abbrev pub shape_boxed : List ℤ → List ℤ → ℕ → ℕ → Bool
shape_boxed block table i s = has_shape block table i s ⇒ boxed block s

-- a flag for each shape; there is no shape 0
pub record Flags (block : List ℤ) (flags : List Bool) : Type 0 where
  pub each : (s : ℕ) → s < 33 → get_or flags s false ≡ boxed block s

-- a rule whose kind and dimension set have passed, and a row whose shape set has
pub record SetRule (block : List ℤ) (r : Place) : Type 0 where
  pub place : RulePlace block r
  pub kind_count : Count (kind block r.number)
  pub dims_count : Count (dim_set block r.number)

pub record SetRow (block table : List ℤ) (i : Place) (flags : List Bool) : Type 0 where
  pub place : RowPlace block table i
  pub set_count : Count (shape_set block table i.number)
  pub flags_of : Flags block flags
