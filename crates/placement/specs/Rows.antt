-- What judging a placement leans on, and when a row of it is good. Assumes nothing.
use Rattle.std.specs.Prelude.{◌≡◌, Bool, true, List, ℕ, ℤ}
use Rattle.integers.specs.Below.{◌⇒◌, all_up_to}
use Rattle.sheet.specs.Layout.{has_shape}
use Rattle.sheet.specs.Allowed.{allowed}
use Rattle.sheet.specs.Placement.{fixed, point_of}
use Rattle.sheet.specs.Accepted.{Block, Table}
use Rattle.outline.specs.Outline.{Outline}

-- an accepted sheet that is a fixed placement, and whose outline is o
pub record FixedSheet (block t o : List ℤ) : Type 0 where
  pub accepted : Block block
  pub table : Table block t
  pub outline : Outline block o
  pub all_fixed : fixed block t ≡ true

-- row i is allowed at its point with its shape
abbrev pub row_good : List ℤ → List ℤ → ℕ → Bool
row_good block t i = all_up_to 32 (λ s. has_shape block t i s ⇒ allowed block t i s (point_of block t i))
