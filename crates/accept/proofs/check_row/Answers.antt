-- `accept::check_row` meets its contract: the sheet's refusal comes first. Assumes nothing.
use mathlib.Core.Path.{ap, ◌∙◌}
use mir.Facts.{to_z-of_z}
use Rattle.std.proofs.Common.{rules}
use Rattle.sheet.specs.Refusal.{no_such_row, refusal_row, ground, grounds}
use Rattle.sheet.proofs.Accepted.{accepted-head, accepted-rows}
use Rattle.sheet.proofs.Answer.{passed, handed_on}
use Rattle.accept.proofs.Chain.{refused-last, passed-last, else-second}
use Rattle.accept.proofs.check_row.Goals as goal

pub returns-in_err-check : goal.returns-in_err-check
unfolding refusal_row
returns-in_err-check c = handed_on _ _ _ _ c.check.ensures c.in_err-check.was (search rules)

pub no_such_row-requires : goal.no_such_row-requires
no_such_row-requires c = let none = passed _ _ c.check.ensures c.in_ok-check.was in (accepted-head _ _ none, accepted-rows _ _ none)

pub returns-then-no_such_row : goal.returns-then-no_such_row
unfolding refusal_row ground grounds
returns-then-no_such_row c =
    refused-last 8 (else-second _ (passed _ _ c.check.ensures c.in_ok-check.was))
    (c.no_such_row.ensures ∙ ap (no_such_row _ _) (to_z-of_z c.ranges.row)) c.if-no_such_row.true

pub returns : goal.returns
unfolding refusal_row
returns c =
    passed-last 9 (else-second _ (passed _ _ c.check.ensures c.in_ok-check.was))
    (c.no_such_row.ensures ∙ ap (no_such_row _ _) (to_z-of_z c.ranges.row)) c.if-no_such_row.false
