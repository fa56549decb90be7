-- The outline of a block: what the code reads of it instead of the block. Assumes nothing.
use Rattle.std.specs.Prelude.{List, ℕ, ℤ}
use Rattle.sheet.specs.Accepted.{Boxed, Block, Table}
use Rattle.words.specs.declared.Place.{Place}
use Rattle.words.specs.Places.{RowPlace}
use Rattle.outline.specs.Chain.{Chained}
use Rattle.outline.specs.Rules.{Rules}
use Rattle.outline.specs.Solids.{Boxes, Hull}

pub record Outline (block o : List ℤ) : Type 0 where
  pub chained : Chained block o
  pub rules : Rules block o
  pub boxes_of : Boxes block o
  pub hulls : (s : ℕ) → Boxed block s → Hull block o s

-- row i of an accepted sheet, whose outline is o
pub record OnRow (block t o : List ℤ) (i : Place) : Type 0 where
  pub accepted : Block block
  pub table : Table block t
  pub outline : Outline block o
  pub row : RowPlace block t i

-- row i of an accepted sheet with a shape of the sheet
pub record Subject (block t o : List ℤ) (i : Place) (s : ℕ) : Type 0 where
  pub accepted : Block block
  pub table : Table block t
  pub outline : Outline block o
  pub row : RowPlace block t i
  pub shape : Boxed block s
