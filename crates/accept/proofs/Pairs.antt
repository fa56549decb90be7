-- What the checks of a call leave that is given two rows and a dimension of their boxes (`PairAsked`). Assumes nothing.
use mathlib.Core.Path.{◌≡◌}
use mathlib.Core.Bool.{true, false}
use mathlib.Core.List.{List}
use Prim.Native.Nat.{◌<◌}
use lib.IntN.{ℤ, pos}
use lib.Signed.{le_z, lt_z}
use Rattle.integers.specs.Integer.{nat}
use Rattle.integers.proofs.Booleans.{not-false, and-true}
use Rattle.integers.proofs.Ints.{ints, disjoint}
use Rattle.sheet.specs.Layout.{dims}
use Rattle.sheet.specs.Refusal.{◌when◌, no_such_row, no_box_dim, refusal, refusal_row, refusal_relation}
use Rattle.sheet.specs.Accepted.{Count}
use Rattle.sheet.proofs.Accepted.{when-zero, else-zero, accepted-head, accepted-rows}
use Rattle.accept.proofs.Numbers.{RowNumber, row_number, row-accepted}

pub record PairAsked (block t : List ℤ) (row other dim : ℤ) : Type 0 where
  pub accepted : refusal block t ≡ 0
  pub row_in : RowNumber block t row
  pub other_in : RowNumber block t other
  pub dim_in : Count dim
  pub dim_below : nat dim < dims block

module _ (block t : List ℤ) (row other dim : ℤ) (e : refusal_relation block t row other dim ≡ 0) where
  parts : (refusal_row block t row ≡ 0) × (no_such_row block t other ≡ false) × (no_box_dim block dim ≡ false)
  unfolding refusal_relation
  parts =
      let a = else-zero (refusal_row block t row) _ e in
      let b = else-zero (9 when no_such_row block t other) _ a.1 in
      let c = else-zero (11 when no_box_dim block dim) _ b.1 in
      (a.0, when-zero 8 (no_such_row block t other) b.0, when-zero 10 (no_box_dim block dim) c.0)

  sheet-accepted : refusal block t ≡ 0
  sheet-accepted = (row-accepted block t row parts.0).0

  number : (r : ℤ) → no_such_row block t r ≡ false → RowNumber block t r
  number r f = row_number block t r (accepted-rows block t sheet-accepted) f

  below : (le_z (pos 0) dim ≡ true) × (lt_z dim (pos (dims block)) ≡ true)
  unfolding no_box_dim
  below = and-true (not-false parts.2)

  pub pair-asked : PairAsked block t row other dim
  pair-asked =
      let l = below.0 in
      let u = below.1 in
      let few = (accepted-head block t sheet-accepted).few_dims in
      record {
        accepted = sheet-accepted;
        row_in = number row (row-accepted block t row parts.0).1;
        other_in = number other parts.1;
        dim_in = record { from = omega ints; upto = omega (ints, few) };
        dim_below = omega (ints, disjoint dim);
      }
