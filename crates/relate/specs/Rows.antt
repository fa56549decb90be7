-- What finding a row's extent leans on. Assumes nothing.
use Rattle.std.specs.Prelude.{List, ℕ, ◌<◌, ℤ}
use Rattle.sheet.specs.Layout.{dims}
use Rattle.sheet.specs.Accepted.{Block, Table}
use Rattle.words.specs.declared.Place.{Place}
use Rattle.words.specs.Places.{RowPlace}

-- a row of an accepted sheet, and a dimension of its boxes
pub record RowIn (block t : List ℤ) (i : Place) (d : ℕ) : Type 0 where
  pub accepted : Block block
  pub table : Table block t
  pub row : RowPlace block t i
  pub dim : d < dims block
