-- Tables cut down at one place: a row's set or one range replaced, and a number of a row cut to the values from a to b. A row's numbers are
-- its shape's and then a coordinate for each dimension; in a table that is not fixed several values may be open for one of them.
-- Document 02's T-06 splits tables so, and T-08 tightens one range. The laws are in proofs/Cuts.antt. Assumes nothing.
use Rattle.std.specs.Prelude.{◌≡◌, Bool, true, ◌&&◌, List, [], ◌∷◌, ℕ, zero, suc, ◌+◌, ◌*◌, ◌≤◌, ℤ, pos}
use Rattle.integers.specs.Integer.{nat, within, max_z, min_z}
use Rattle.integers.specs.Below.{least_below, value_or}
use Rattle.integers.specs.Bits.{set_of}
use Rattle.integers.specs.Words.{replaced}
use Rattle.sheet.specs.Layout.{axes, row_at, rows, low, high, has_shape}

module _ (block : List ℤ) (table : List ℤ) where
  -- row i has a number c
  pub record HasNumber (i c : ℕ) : Type 0 where
    pub from : 1 ≤ i
    pub upto : i ≤ rows block table
    pub few : c ≤ axes block

  -- row i's set replaced, and its range in dimension d
  unfoldable pub with_shapes : ℕ → ℤ → List ℤ
  with_shapes i set = replaced table (row_at block i) (set ∷ [])

  unfoldable pub with_range : ℕ → ℕ → ℤ → ℤ → List ℤ
  with_range i d a b = replaced table (row_at block i + 1 + 2 * d) (a ∷ b ∷ [])

  -- z is open for number c of row i: shape z is in its set, or z lies in its range in dimension c − 1
  unfoldable pub is_open : ℕ → ℕ → ℤ → Bool
  is_open i zero z = has_shape block table i (nat z)
  is_open i (suc d) z = within (low block table i d) (high block table i d) z

  -- the least value that is open; of a placement, number c of row i: its shape's number, or its coordinate in dimension c − 1
  unfoldable pub number : ℕ → ℕ → ℤ
  number i zero = pos (value_or 0 (least_below 33 (has_shape block table i)))
  number i (suc d) = low block table i d

  -- no other is open
  abbrev pub Single : ℕ → ℕ → Type 0
  Single i c = (z : ℤ) → is_open i c z ≡ true → z ≡ number i c

  -- the values from a to b alone stay open
  unfoldable pub cut_to : ℕ → ℕ → ℤ → ℤ → List ℤ
  cut_to i zero a b = with_shapes i (pos (set_of 32 (λ s. has_shape block table i s && within a b (pos s))))
  cut_to i (suc d) a b = with_range i d (max_z (low block table i d) a) (min_z (high block table i d) b)

-- one name that opens every definition above: `unfolding cutting`
unfoldable pub cutting : Unit {0}
unfolding with_shapes with_range is_open number cut_to
cutting = tt
