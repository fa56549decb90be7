-- Settling the whole table (mission demand 3): settled tables and what must be found, as statements, and a definition that
-- narrows row after row until nothing moves. That the definition finds what the statement asks is proofs/Demand3.antt.
-- A finding is an option: none is 'no layout', and the table is unchanged; some table is 'settled', at that. Assumes nothing.
use Rattle.std.specs.Prelude.{◌≡◌, true, List, ℕ, suc, ◌+◌, ◌≤◌, ◌<◌, length, ℤ, ◌≤ℤ◌}
use Rattle.std.proofs.Math.Option.{Option}
use Rattle.integers.specs.Integer.{nat, width}
use Rattle.integers.specs.Below.{sum_below}
use Rattle.integers.specs.Words.{same_words}
use Rattle.fixpoint.specs.Finding.{Finds}
use Rattle.fixpoint.specs.Passes.{settle_by}
use Rattle.sheet.specs.Layout.{axes, rows, shape_set, low, high, has_shape}
use Rattle.sheet.specs.Allowed.{allowed}
use Rattle.sheet.specs.Narrow.{Reached, narrow_of}

module _ (block : List ℤ) where
  -- each end of each range of a row is the coordinate, in that range's dimension, of a point at which the row, with some shape of
  -- its set, is allowed in the same table, and each shape of a row's set has a point at which the row with it is
  pub record Settled (table : List ℤ) : Type 0 where
    pub lows : (i d : ℕ) → 1 ≤ i → i ≤ rows block table → d < axes block → Reached block table i d (low block table i d)
    pub highs : (i d : ℕ) → 1 ≤ i → i ≤ rows block table → d < axes block → Reached block table i d (high block table i d)
    pub shapes : (i s : ℕ) → 1 ≤ i → i ≤ rows block table → has_shape block table i s ≡ true → (p : List ℤ) × (allowed block table i s p ≡ true)

  -- as many rows, and each range and set within its counterpart
  pub record Inside (inner outer : List ℤ) : Type 0 where
    pub as_long : length inner ≡ length outer
    pub lows : (i d : ℕ) → 1 ≤ i → i ≤ rows block outer → d < axes block → low block outer i d ≤ℤ low block inner i d
    pub highs : (i d : ℕ) → 1 ≤ i → i ≤ rows block outer → d < axes block → high block inner i d ≤ℤ high block outer i d
    pub shapes : (i s : ℕ) → 1 ≤ i → i ≤ rows block outer → has_shape block inner i s ≡ true → has_shape block outer i s ≡ true

  -- none: no settled table lies inside; some t: t is settled, lies inside, and every settled table inside lies inside t
  abbrev pub Settles : List ℤ → Option (List ℤ) → Type 0
  Settles table finding = Finds Inside Settled table finding

  -- the sets as numbers, and the widths of the ranges: it falls with each pass in which a word moves
  unfoldable pub extent : List ℤ → ℕ
  extent table =
      sum_below (rows block table) (λ m.
      nat (shape_set block table (suc m))
      + sum_below (axes block) (λ d. width (low block table (suc m) d) (high block table (suc m) d)))

  -- rows 1 to n narrowed in turn, and again until a pass moves nothing
  unfoldable pub settle_of : List ℤ → Option (List ℤ)
  settle_of table = settle_by (λ m t. narrow_of block t (suc m)) same_words (rows block table) extent table

-- one name that opens every definition above: `unfolding settling`
unfoldable pub settling : Unit {0}
unfolding extent settle_of
settling = tt
