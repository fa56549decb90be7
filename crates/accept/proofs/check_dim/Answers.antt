-- `accept::check_dim` meets its contract: the shape's refusal comes first. Assumes nothing.
use mathlib.Core.Path.{◌≡◌, ap, ◌∙◌}
use mir.Facts.{to_z-of_z}
use Rattle.std.proofs.Common.{rules}
use Rattle.sheet.specs.Refusal.{no_such_dim, refusal_row, refusal_shape, refusal_dim, ground, grounds}
use Rattle.sheet.proofs.Accepted.{accepted-head, else-zero}
use Rattle.sheet.proofs.Answer.{passed, handed_on}
use Rattle.accept.proofs.Chain.{refused-last, passed-last, else-second}
use Rattle.accept.proofs.Numbers.{row-accepted}
use Rattle.accept.proofs.check_dim.Goals as goal

none : (c : goal.In_ok-check_shape) → refusal_shape c.args.block.now c.args.table.now c.args.row c.args.shape ≡ 0
none c = passed _ _ (simp (to_z-of_z c.ranges.row, to_z-of_z c.ranges.shape) at c.check_shape.ensures) c.in_ok-check_shape.was

pub returns-in_err-check_shape : goal.returns-in_err-check_shape
unfolding refusal_dim
returns-in_err-check_shape c =
    handed_on _ _ _ _ (simp (to_z-of_z c.ranges.row, to_z-of_z c.ranges.shape) at c.check_shape.ensures) c.in_err-check_shape.was (search rules)

pub no_such_dim-requires : goal.no_such_dim-requires
unfolding refusal_shape
no_such_dim-requires c = accepted-head _ _ (row-accepted _ _ _ (else-zero (refusal_row _ _ _) _ (none c)).0).0

pub returns-then-no_such_dim : goal.returns-then-no_such_dim
unfolding refusal_dim ground grounds
returns-then-no_such_dim c =
    let a = c.args in
    let none = passed (refusal_shape a.block.now a.table.now a.row a.shape) _
    (simp (to_z-of_z c.ranges.row, to_z-of_z c.ranges.shape) at c.check_shape.ensures) c.in_ok-check_shape.was in
    refused-last 10 (else-second _ none) (c.no_such_dim.ensures _ ∙ ap (no_such_dim _ _) (to_z-of_z c.ranges.dim)) c.if-no_such_dim.true

pub returns : goal.returns
unfolding refusal_dim
returns c =
    let a = c.args in
    let none = passed (refusal_shape a.block.now a.table.now a.row a.shape) _
    (simp (to_z-of_z c.ranges.row, to_z-of_z c.ranges.shape) at c.check_shape.ensures) c.in_ok-check_shape.was in
    passed-last 11 (else-second _ none) (c.no_such_dim.ensures _ ∙ ap (no_such_dim _ _) (to_z-of_z c.ranges.dim)) c.if-no_such_dim.false
