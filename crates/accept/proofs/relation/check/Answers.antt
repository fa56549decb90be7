-- `accept::relation::check` meets its contract: the first row's refusal comes first, then the checks in their order. Assumes nothing.
use mathlib.Core.Path.{◌≡◌, sym, ◌∙◌}
use mir.Facts.{to_z-of_z}
use Rattle.std.proofs.Common.{rules, false, List, ℤ}
use Rattle.sheet.specs.Refusal.{◌when◌, ◌else◌, no_such_row, no_box_dim, not_fixed, refusal_row, refusal_relation, ground, grounds}
use Rattle.sheet.proofs.Accepted.{accepted-head, accepted-rows, accepted-table}
use Rattle.sheet.proofs.Answer.{passed, handed_on}
use Rattle.accept.proofs.Chain.{past, refused-first, refused-last, passed-last, else-second}
use Rattle.accept.proofs.Numbers.{row-accepted}
use Rattle.accept.proofs.relation.check.Goals as goal

-- ---- what is left of the refusal from each check on
module _ (block t : List ℤ) (row other dim : ℤ) where
  from9 : refusal_row block t row ≡ 0
      → refusal_relation block t row other dim ≡ (9 when no_such_row block t other else 11 when no_box_dim block dim else 12 when not_fixed block t)
  unfolding refusal_relation
  from9 none = else-second _ none

  from11 : refusal_row block t row ≡ 0 → no_such_row block t other ≡ false
      → refusal_relation block t row other dim ≡ (11 when no_box_dim block dim else 12 when not_fixed block t)
  from11 none there = from9 none ∙ past 9 _ there

  from12 : refusal_row block t row ≡ 0 → no_such_row block t other ≡ false → no_box_dim block dim ≡ false
      → refusal_relation block t row other dim ≡ (12 when not_fixed block t)
  from12 none there of_boxes = from11 none there ∙ past 11 _ of_boxes

-- ---- the calls
pub returns-in_err-check_row : goal.returns-in_err-check_row
unfolding refusal_relation
returns-in_err-check_row c = handed_on _ _ _ _ (simp (to_z-of_z c.ranges.row) at c.check_row.ensures) c.in_err-check_row.was (search rules)

pub no_such_row-requires : goal.no_such_row-requires
no_such_row-requires c =
    let e = (row-accepted _ _ _ (passed _ _ c.check_row.ensures c.in_ok-check_row.was)).0 in
    (accepted-head _ _ e, accepted-rows _ _ e)

pub returns-then-no_such_row : goal.returns-then-no_such_row
unfolding ground grounds
returns-then-no_such_row c =
    let a = c.args in
    let none = passed _ _ (simp (to_z-of_z c.ranges.row) at c.check_row.ensures) c.in_ok-check_row.was in
    refused-first 8 _ (from9 a.block.now a.table.now a.row a.other a.dim none) (simp (to_z-of_z c.ranges.other) at c.no_such_row.ensures) c.if-no_such_row.true

pub no_box_dim-requires : goal.no_box_dim-requires
no_box_dim-requires c = accepted-head _ _ (row-accepted _ _ _ (passed _ _ c.check_row.ensures c.in_ok-check_row.was)).0

pub returns-then-no_box_dim : goal.returns-then-no_box_dim
unfolding ground grounds
returns-then-no_box_dim c =
    let a = c.args in
    let none = passed _ _ (simp (to_z-of_z c.ranges.row) at c.check_row.ensures) c.in_ok-check_row.was in
    let there = sym (simp (to_z-of_z c.ranges.other) at c.no_such_row.ensures) ∙ c.if-no_such_row.false in
    refused-first 10 _ (from11 a.block.now a.table.now a.row a.other a.dim none there) (simp (to_z-of_z c.ranges.dim) at c.no_box_dim.ensures) c.if-no_box_dim.true

pub not_fixed-requires : goal.not_fixed-requires
not_fixed-requires c =
    let e = (row-accepted _ _ _ (passed _ _ c.check_row.ensures c.in_ok-check_row.was)).0 in
    (accepted-head _ _ e, accepted-table _ _ e)

pub returns-then-not_fixed : goal.returns-then-not_fixed
unfolding ground grounds
returns-then-not_fixed c =
    let a = c.args in
    let none = passed _ _ (simp (to_z-of_z c.ranges.row) at c.check_row.ensures) c.in_ok-check_row.was in
    let there = sym (simp (to_z-of_z c.ranges.other) at c.no_such_row.ensures) ∙ c.if-no_such_row.false in
    let of_boxes = sym (simp (to_z-of_z c.ranges.dim) at c.no_box_dim.ensures) ∙ c.if-no_box_dim.false in
    refused-last 11 (from12 a.block.now a.table.now a.row a.other a.dim none there of_boxes) c.not_fixed.ensures c.if-not_fixed.true

pub returns : goal.returns
returns c =
    let a = c.args in
    let none = passed _ _ (simp (to_z-of_z c.ranges.row) at c.check_row.ensures) c.in_ok-check_row.was in
    let there = sym (simp (to_z-of_z c.ranges.other) at c.no_such_row.ensures) ∙ c.if-no_such_row.false in
    let of_boxes = sym (simp (to_z-of_z c.ranges.dim) at c.no_box_dim.ensures) ∙ c.if-no_box_dim.false in
    passed-last 12 (from12 a.block.now a.table.now a.row a.other a.dim none there of_boxes) c.not_fixed.ensures c.if-not_fixed.false
