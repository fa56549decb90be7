-- What the checks of a call that is given a row and a shape leave (`ShapeAsked`). Assumes nothing.
use mathlib.Core.Path.{◌≡◌}
use mathlib.Core.Bool.{true, false}
use mathlib.Core.List.{List}
use lib.IntN.{ℤ}
use Rattle.integers.specs.Integer.{nat}
use Rattle.integers.proofs.Booleans.{not-false}
use Rattle.integers.proofs.Ints.{ints, disjoint}
use Rattle.integers.proofs.Sets.{member-ge-1, small-set}
use Rattle.sheet.specs.Layout.{shape_set, has_shape}
use Rattle.sheet.specs.Refusal.{◌when◌, no_such_shape, refusal, refusal_row, refusal_shape}
use Rattle.sheet.specs.Accepted.{Count, Boxed}
use Rattle.sheet.proofs.Accepted.{when-zero, else-zero, accepted-rows, accepted-table}
use Rattle.accept.proofs.Numbers.{RowNumber, row_number, row-accepted}

pub record ShapeAsked (block t : List ℤ) (row shape : ℤ) : Type 0 where
  pub accepted : refusal block t ≡ 0
  pub row_in : RowNumber block t row
  pub shape_in : Count shape
  pub held : has_shape block t (nat row) (nat shape) ≡ true
  pub boxed : Boxed block (nat shape)

module _ (block t : List ℤ) (row shape : ℤ) (e : refusal_shape block t row shape ≡ 0) where
  parts : (refusal_row block t row ≡ 0) × (no_such_shape block t row shape ≡ false)
  unfolding refusal_shape
  parts =
      let b = else-zero (refusal_row block t row) (10 when no_such_shape block t row shape) e in
      (b.0, when-zero 9 (no_such_shape block t row shape) b.1)

  sheet-accepted : refusal block t ≡ 0
  sheet-accepted = (row-accepted block t row parts.0).0

  number : RowNumber block t row
  number = row_number block t row (accepted-rows block t sheet-accepted) (row-accepted block t row parts.0).1

  shape-held : has_shape block t (nat row) (nat shape) ≡ true
  unfolding no_such_shape
  shape-held = not-false parts.1

  -- the shapes of a set are 1 to 32
  shape-count : Count shape
  unfolding has_shape
  shape-count =
      let a = member-ge-1 (shape_set block t (nat row)) shape-held in
      let b = small-set {n = 32} ((accepted-table block t sheet-accepted).sets_upto (nat row) number.from number.upto) shape-held in
      record { from = omega (ints, disjoint shape); upto = omega (ints, disjoint shape) }

  pub shape-asked : ShapeAsked block t row shape
  shape-asked = record {
    accepted = sheet-accepted;
    row_in = number;
    shape_in = shape-count;
    held = shape-held;
    boxed = (accepted-table block t sheet-accepted).boxed (nat row) (nat shape) number.from number.upto shape-held;
  }
