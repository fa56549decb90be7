-- Narrowing one row: what it must leave, as a statement about any finding, and a definition that computes it. That the
-- definition finds what the statement asks is proofs/Narrows.antt. A finding is an option: none is 'no place', and the table
-- is unchanged; some table is 'narrowed', to that. Assumes nothing.
use Rattle.std.specs.Prelude.{◌≡◌, ◌↔◌, Bool, true, cond, ◌&&◌, List, ◌∷◌, ℕ, ◌+◌, ◌≤◌, ◌<◌, length, ℤ, pos, ◌≤ℤ◌}
use Rattle.std.proofs.Math.Option.{Option, none, some}
use Rattle.integers.specs.Below.{any_up_to, value_or}
use Rattle.integers.specs.Bits.{set_of}
use Rattle.integers.specs.Words.{word, pairs_below, replaced}
use Rattle.sheet.specs.Layout.{axes, row_len, row_at, low, high, has_shape}
use Rattle.sheet.specs.Allowed.{allowed}
use Rattle.sheet.specs.Bounds.{some_point, least_by, greatest_by}

module _ (block : List ℤ) where
  -- row i, with some shape of its set, is allowed in the table at a point
  pub record Stands (table : List ℤ) (i : ℕ) (point : List ℤ) : Type 0 where
    pub shape : ℕ
    pub held : has_shape block table i shape ≡ true
    pub stands : allowed block table i shape point ≡ true

  -- at a point whose coordinate in dimension d is z
  pub record Reached (table : List ℤ) (i d : ℕ) (z : ℤ) : Type 0 where
    pub point : List ℤ
    pub there : word point d ≡ z
    pub by : Stands table i point

  -- after is the table with row i narrowed
  pub record Narrowed (table : List ℤ) (i : ℕ) (after : List ℤ) : Type 0 where
    pub as_long : length after ≡ length table
    -- other rows keep their words
    pub others : (at : ℕ) → (at < row_at block i → word after at ≡ word table at)
        × (row_at block i + row_len block ≤ at → word after at ≡ word table at)
    -- the smallest ranges that hold all allowed points
    pub lows : (d : ℕ) → d < axes block → Reached table i d (low block after i d)
    pub highs : (d : ℕ) → d < axes block → Reached table i d (high block after i d)
    pub bounds : (p : List ℤ) → Stands table i p → (d : ℕ) → d < axes block → (low block after i d ≤ℤ word p d) × (word p d ≤ℤ high block after i d)
    -- the shapes with such a point
    pub shapes : (s : ℕ)
        → (has_shape block after i s ≡ true) ↔ ((has_shape block table i s ≡ true) × ((p : List ℤ) × (allowed block table i s p ≡ true)))

  -- 'no place' exactly when no point is allowed
  pub data Narrows (table : List ℤ) (i : ℕ) : Option (List ℤ) → Type 0 where
    no_place : ((p : List ℤ) → Stands table i p → ⊥) → Narrows table i none
    narrowed : {after : List ℤ} → (p : List ℤ) → Stands table i p → Narrowed table i after → Narrows table i (some after)

  module _ (table : List ℤ) where
    -- row i is allowed at p with some shape of its set
    unfoldable pub row_allowed : ℕ → List ℤ → Bool
    row_allowed i p = any_up_to 32 (λ s. has_shape block table i s && allowed block table i s p)

    -- shape s of row i has an allowed point
    unfoldable pub keeps_shape : ℕ → ℕ → Bool
    keeps_shape i s = has_shape block table i s && some_point block table i (allowed block table i s)

    unfoldable pub narrow_low : ℕ → ℕ → ℤ
    narrow_low i d = value_or (low block table i d) (least_by block table i (row_allowed i) d)

    unfoldable pub narrow_high : ℕ → ℕ → ℤ
    narrow_high i d = value_or (high block table i d) (greatest_by block table i (row_allowed i) d)

    -- the row's words: the shapes with a point, and the smallest ranges
    unfoldable pub narrow_row : ℕ → List ℤ
    narrow_row i = pos (set_of 32 (keeps_shape i)) ∷ pairs_below (axes block) (narrow_low i) (narrow_high i)

    unfoldable pub narrow_of : ℕ → Option (List ℤ)
    narrow_of i =
        let after = replaced table (row_at block i) (narrow_row i) in
        cond (some_point block table i (row_allowed i)) (some after) none

-- one name that opens every definition above: `unfolding narrowing`
unfoldable pub narrowing : Unit {0}
unfolding row_allowed keeps_shape narrow_low narrow_high narrow_row narrow_of
narrowing = tt
