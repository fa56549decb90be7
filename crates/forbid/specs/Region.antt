-- Regions: whether a point passes a test, and where it does, an area around it in which every point does. Assumes nothing.
use Rattle.std.specs.Prelude.{is_some, IfSome, IfNone, Option, ◌≡◌, Bool, true, false, ◌&&◌, List, ℕ, ◌<◌, ℤ}
use Rattle.integers.specs.Below.{any_up_to}
use Rattle.sheet.specs.Layout.{axes, boxes, is_of, is_non_overlap, names_row, rows}
use Rattle.sheet.specs.Allowed.{shapes_forbid, row_forbids}
use Rattle.sheet.specs.Accepted.{Boxed, Block, Table}
use Rattle.words.specs.declared.Place.{Place}
use Rattle.words.specs.Places.{RulePlace, RowPlace}
use Rattle.points.specs.declared.Area.{Area}
use Rattle.points.specs.Area.{in_area, Small, InField}
use Rattle.outline.specs.Outline.{Outline}
use Rattle.forbid.specs.declared.row.Boxes.{Boxes}
use Rattle.forbid.specs.Pair.{solids_forbid}

-- there is an area exactly when p is F, and it holds p and only points that are F
pub record IsRegion (k : ℕ) (F : List ℤ → Bool) (p : List ℤ) (x : Option Area) : Type 0 where
  pub hit : is_some x ≡ F p
  pub around : IfSome x (λ a. in_area k a p ≡ true)
  pub only : IfSome x (λ a. (q : List ℤ) → in_area k a q ≡ true → F q ≡ true)
  pub small : IfSome x Small

module _ (block : List ℤ) (t : List ℤ) where
  -- a shape of an accepted sheet, whose outline is o, and a point near enough
  pub record AtPoint (o : List ℤ) (s : ℕ) (p : List ℤ) : Type 0 where
    pub accepted : Block block
    pub table : Table block t
    pub outline : Outline block o
    pub own : Boxed block s
    pub near : InField (axes block) p

  -- a shape and a point, with rule r and another row
  pub record Versus (o : List ℤ) (r : Place) (s : ℕ) (j : Place) (p : List ℤ) : Type 0 where
    pub at_point : AtPoint o s p
    pub rule : RulePlace block r
    pub row : RowPlace block t j

  -- x is a pair of boxes, of shape s and of shape u of row j, that forbids p
  pub record PairAt (o : List ℤ) (r : Place) (s : ℕ) (j : Place) (u : ℕ) (p : List ℤ) (x : Boxes) : Type 0 where
    pub own_below : x.own < boxes block
    pub other_below : x.other < boxes block
    pub own_is : is_of block x.own s ≡ true
    pub other_is : is_of block x.other u ≡ true
    pub forbids : solids_forbid block t o (record { r = r; own = x.own; j = j; other = x.other }) p ≡ true

  -- so, or there is none and the shapes do not forbid p
  pub record PairFound (o : List ℤ) (r : Place) (s : ℕ) (j : Place) (u : ℕ) (p : List ℤ) (x : Option Boxes) : Type 0 where
    pub pair : IfSome x (PairAt o r s j u p)
    pub none : IfNone x ((i : ℕ) → shapes_forbid block t r.number p i s j.number u ≡ false)

  -- some row forbids p by rule r; the rule is one of kind 1 that names row i
  unfoldable pub rows_forbid : ℕ → ℕ → ℕ → List ℤ → Bool
  rows_forbid r i s p = any_up_to (rows block t) (row_forbids block t r p i s)

  unfoldable pub rule_forbids : ℕ → ℕ → ℕ → List ℤ → Bool
  rule_forbids i s r p = is_non_overlap block r && names_row block r i && rows_forbid r i s p
