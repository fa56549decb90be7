-- A record's number and where its first word stands, for each kind of record, in a block and a table of the lengths that checks 2 to 5
-- leave. Assumes nothing.
use Rattle.std.specs.Prelude.{◌≡◌, List, ◌≤◌, ◌<◌, ℤ}
use Rattle.sheet.specs.Layout.{boxes, rules, box_at, rule_at, row_at, rows}
use Rattle.sheet.specs.Accepted.{Head, Rows}
use Rattle.words.specs.declared.Place.{Place}

pub record BoxPlace (block : List ℤ) (x : Place) : Type 0 where
  pub head : Head block
  pub below : x.number < boxes block
  pub stands : x.at ≡ box_at block x.number

pub record RulePlace (block : List ℤ) (x : Place) : Type 0 where
  pub head : Head block
  pub below : x.number < rules block
  pub stands : x.at ≡ rule_at block x.number

pub record RowPlace (block : List ℤ) (table : List ℤ) (x : Place) : Type 0 where
  pub head : Head block
  pub whole : Rows block table
  pub from : 1 ≤ x.number
  pub upto : x.number ≤ rows block table
  pub stands : x.at ≡ row_at block x.number
