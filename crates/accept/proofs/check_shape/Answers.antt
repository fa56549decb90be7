-- `accept::check_shape` meets its contract: the row's refusal comes first. Assumes nothing.
use mathlib.Core.Path.{◌≡◌, ap₂, ◌∙◌}
use mir.Facts.{to_z-of_z}
use Rattle.std.proofs.Common.{rules}
use Rattle.sheet.specs.Refusal.{no_such_shape, refusal_row, refusal_shape, ground, grounds}
use Rattle.sheet.proofs.Accepted.{accepted-head, accepted-table}
use Rattle.sheet.proofs.Answer.{passed, handed_on}
use Rattle.accept.proofs.Chain.{refused-last, passed-last, else-second}
use Rattle.accept.proofs.Numbers.{row-accepted}
use Rattle.accept.proofs.check_shape.Goals as goal

none : (c : goal.In_ok-check_row) → refusal_row c.args.block.now c.args.table.now c.args.row ≡ 0
none c = passed _ _ (simp (to_z-of_z c.ranges.row) at c.check_row.ensures) c.in_ok-check_row.was

pub returns-in_err-check_row : goal.returns-in_err-check_row
unfolding refusal_shape
returns-in_err-check_row c = handed_on _ _ _ _ (simp (to_z-of_z c.ranges.row) at c.check_row.ensures) c.in_err-check_row.was (search rules)

pub no_such_shape-requires : goal.no_such_shape-requires
no_such_shape-requires c =
    let w = row-accepted _ _ _ (none c) in
    (accepted-head _ _ w.0, accepted-table _ _ w.0, rw (to_z-of_z c.ranges.row) w.1)

pub returns-then-no_such_shape : goal.returns-then-no_such_shape
unfolding refusal_shape ground grounds
returns-then-no_such_shape c =
    let none = passed (refusal_row c.args.block.now c.args.table.now c.args.row) _ (simp (to_z-of_z c.ranges.row) at c.check_row.ensures) c.in_ok-check_row.was in
    refused-last 9 (else-second _ none)
    (c.no_such_shape.ensures ∙ ap₂ (no_such_shape _ _) (to_z-of_z c.ranges.row) (to_z-of_z c.ranges.shape)) c.if-no_such_shape.true

pub returns : goal.returns
unfolding refusal_shape
returns c =
    let none = passed (refusal_row c.args.block.now c.args.table.now c.args.row) _ (simp (to_z-of_z c.ranges.row) at c.check_row.ensures) c.in_ok-check_row.was in
    passed-last 10 (else-second _ none)
    (c.no_such_shape.ensures ∙ ap₂ (no_such_shape _ _) (to_z-of_z c.ranges.row) (to_z-of_z c.ranges.shape)) c.if-no_such_shape.false
