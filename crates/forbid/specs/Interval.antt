-- The forbidden interval of two extents, and what bounds keep its ends within reach. Assumes nothing.
use Rattle.std.specs.Prelude.{ℤ, pos, ◌+ℤ◌, ◌-ℤ◌}
use Rattle.integers.specs.Integer.{Within}
use Rattle.outline.specs.declared.solid.Extent.{Extent}
use Rattle.outline.specs.Solids.{far}

module _ (own other : Extent) where
  -- the first and the last number that the other extent, of a row whose places go from low to high, forbids to the own one under a rule with
  -- the clearance g
  unfoldable pub forbid_first : ℤ → ℤ → ℤ
  forbid_first high g = high +ℤ other.start -ℤ own.end +ℤ pos 1 -ℤ g

  unfoldable pub forbid_last : ℤ → ℤ → ℤ
  forbid_last low g = low +ℤ other.end -ℤ own.start -ℤ pos 1 +ℤ g

  -- every sum of these fits
  pub record SumsFit (low high g : ℤ) : Type 0 where
    pub own_start : Within far own.start
    pub own_end : Within far own.end
    pub other_start : Within far other.start
    pub other_end : Within far other.end
    pub lowest : Within 1000000 low
    pub highest : Within 1000000 high
    pub clearance : Within 1000000 g
