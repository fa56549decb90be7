-- `relate::relation` meets its contract: a refusal is handed on, and otherwise the checks leave two rows and a dimension. Assumes nothing.
use mathlib.Core.Path.{◌≡◌, sym, ap, ap₂, ◌∙◌}
use mathlib.Core.List.{List}
use lib.IntN.{ℤ, nat_abs}
use mir.Syntax.{w64}
use mir.Val.{to_z, of_z}
use mir.Facts.{to_z-of_z}
use Rattle.std.proofs.Common.{rules}
use Rattle.std.specs.Prelude.{Ok}
use Rattle.integers.specs.Integer.{nat}
use Rattle.integers.proofs.Machine.{cast_ok}
use Rattle.sheet.specs.Refusal.{refusal_relation}
use Rattle.sheet.specs.Relation.{lowest_start, highest_end, relation_of}
use Rattle.sheet.proofs.Accepted.{accepted-head, accepted-rows, accepted-block, accepted-table}
use Rattle.sheet.proofs.Answer.{answered, passed, refused}
use Rattle.outline.specs.declared.solid.Extent.{Extent}
use Rattle.words.proofs.Reading.{cast-nat}
use Rattle.accept.proofs.Numbers.{row_upto}
use Rattle.accept.proofs.Pairs.{PairAsked, pair-asked}
use Rattle.relate.proofs.relation.Goals as goal
use Rattle.relate.proofs.relation.Goals.{In_ok-check, After-of_row-2}

module _ (e : In_ok-check) where
  abbrev block : List ℤ
  block = e.args.block.now

  abbrev t : List ℤ
  t = e.args.table.now

  no-refusal : refusal_relation block t e.args.row e.args.other e.args.dimension ≡ 0
  no-refusal =
      let f = e.ranges in
      passed (refusal_relation block t e.args.row e.args.other e.args.dimension) _
      (simp (to_z-of_z f.row, to_z-of_z f.other, to_z-of_z f.dimension) at e.check.ensures) e.in_ok-check.was

  asks : PairAsked block t e.args.row e.args.other e.args.dimension
  asks = pair-asked block t e.args.row e.args.other e.args.dimension no-refusal

  row_is : nat_abs (to_z w64 (of_z w64 e.args.row)) ≡ nat e.args.row
  row_is = cast-nat e.args.row e.ranges.row.sfits asks.row_in.count

  other-is : nat_abs (to_z w64 (of_z w64 e.args.other)) ≡ nat e.args.other
  other-is = cast-nat e.args.other e.ranges.other.sfits asks.other_in.count

  dim-is : nat_abs (to_z w64 (of_z w64 e.args.dimension)) ≡ nat e.args.dimension
  dim-is = cast-nat e.args.dimension e.ranges.dimension.sfits asks.dim_in

-- ---- the two extents
abbrev IsExtent : (e : In_ok-check) → Extent → ℤ → Type 0
IsExtent e x row =
    let d = nat e.args.dimension in
    (x.start ≡ lowest_start (block e) (t e) (nat row) d) × (x.end ≡ highest_end (block e) (t e) (nat row) d)

first : (x : goal.After-of_row) → let e = x.before.before.before in IsExtent e x.of_row.result e.args.row
first x =
    let e = x.before.before.before in
    let i = x.row_place-i.ensures.1 ∙ row_is e in
    (x.of_row.ensures.0 ∙ ap₂ (lowest_start _ _) i (dim-is e), x.of_row.ensures.1 ∙ ap₂ (highest_end _ _) i (dim-is e))

second : (x : After-of_row-2) → let e = x.before.before.before.before in IsExtent e x.of_row-2.result e.args.other
second x =
    let e = x.before.before.before.before in
    let j = x.row_place-j.ensures.1 ∙ other-is e in
    (x.of_row-2.ensures.0 ∙ ap₂ (lowest_start _ _) j (dim-is e), x.of_row-2.ensures.1 ∙ ap₂ (highest_end _ _) j (dim-is e))

pub returns-in_err-check : goal.returns-in_err-check
returns-in_err-check c =
    let f = c.ranges in
    let a = c.args in
    refused (refusal_relation a.block.now a.table.now a.row a.other a.dimension) _ _
    (simp (to_z-of_z f.row, to_z-of_z f.other, to_z-of_z f.dimension) at c.check.ensures) c.in_err-check.was (search rules)

pub overflow_cast-d : goal.overflow_cast-d
overflow_cast-d c = let n = (asks c).dim_in in cast_ok n.from n.upto tt tt

pub overflow_cast-row : goal.overflow_cast-row
overflow_cast-row c = let n = (asks c).row_in.count in cast_ok n.from n.upto tt tt

pub row_place-i-requires : goal.row_place-i-requires
row_place-i-requires c =
    let a = asks c in (
      accepted-head (block c) (t c) a.accepted,
      accepted-rows (block c) (t c) a.accepted,
      rw (row_is c) (row_upto a.row_in),
    )

pub overflow_cast-other : goal.overflow_cast-other
overflow_cast-other c = let n = (asks c.before).other_in.count in cast_ok n.from n.upto tt tt

pub row_place-j-requires : goal.row_place-j-requires
row_place-j-requires c =
    let e = c.before in
    let a = asks e in (
      accepted-head (block e) (t e) a.accepted,
      accepted-rows (block e) (t e) a.accepted,
      rw (other-is e) (row_upto a.other_in),
    )

pub of_row-requires : goal.of_row-requires
of_row-requires c =
    let e = c.before.before in
    let a = asks e in
    record {
      accepted = accepted-block (block e) (t e) a.accepted;
      table = accepted-table (block e) (t e) a.accepted;
      row = c.row_place-i.ensures.0;
      dim = rw (dim-is e) a.dim_below;
    }

pub of_row-requires-2 : goal.of_row-requires-2
of_row-requires-2 c =
    let e = c.before.before.before in
    let a = asks e in
    record {
      accepted = accepted-block (block e) (t e) a.accepted;
      table = accepted-table (block e) (t e) a.accepted;
      row = c.row_place-j.ensures.0;
      dim = rw (dim-is e) a.dim_below;
    }

pub returns : goal.returns
unfolding relation_of
returns c =
    let y = c.before in
    let x = y.before in
    let a = first x in
    let b = second y in
    ap Ok (c.between.ensures ∙ rw (a.0, a.1, b.0, b.1)) ∙ sym (answered _ (no-refusal x.before.before.before))
