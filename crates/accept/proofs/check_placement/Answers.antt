-- `accept::check_placement` meets its contract: the sheet's refusal comes first. Assumes nothing.
use Rattle.std.proofs.Common.{rules}
use Rattle.sheet.specs.Refusal.{refusal_placement, ground, grounds}
use Rattle.sheet.proofs.Accepted.{accepted-head, accepted-table}
use Rattle.sheet.proofs.Answer.{passed, handed_on}
use Rattle.accept.proofs.Chain.{refused-last, passed-last, else-second}
use Rattle.accept.proofs.check_placement.Goals as goal

pub returns-in_err-check : goal.returns-in_err-check
unfolding refusal_placement
returns-in_err-check c = handed_on _ _ _ _ c.check.ensures c.in_err-check.was (search rules)

pub not_fixed-requires : goal.not_fixed-requires
not_fixed-requires c = let none = passed _ _ c.check.ensures c.in_ok-check.was in (accepted-head _ _ none, accepted-table _ _ none)

pub returns-then-not_fixed : goal.returns-then-not_fixed
unfolding refusal_placement ground grounds
returns-then-not_fixed c = refused-last 11 (else-second _ (passed _ _ c.check.ensures c.in_ok-check.was)) c.not_fixed.ensures c.if-not_fixed.true

pub returns : goal.returns
unfolding refusal_placement
returns c = passed-last 12 (else-second _ (passed _ _ c.check.ensures c.in_ok-check.was)) c.not_fixed.ensures c.if-not_fixed.false
