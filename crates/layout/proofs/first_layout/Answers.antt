-- `layout::first_layout` meets its contract: it answers the refusal, or as `first_of` does. Assumes nothing.
use Rattle.std.proofs.Common.{rules}
use Rattle.sheet.proofs.Answer.{passed, refused}
use Rattle.settle.proofs.Answers.{left_refused}
use Rattle.layout.proofs.Answers.{is-small, answer-by}
use Rattle.layout.proofs.first_layout.Goals as goal

pub returns-in_err-check : goal.returns-in_err-check
returns-in_err-check c =
    (refused _ _ _ c.check.ensures c.in_err-check.was (search rules), left_refused _ _ _ _ c.check.ensures c.in_err-check.was)

pub first_of-requires : goal.first_of-requires
first_of-requires c = is-small _ _ (passed _ _ c.check.ensures c.in_ok-check.was)

pub returns : goal.returns
returns c = answer-by _ _ (passed _ _ c.check.ensures c.in_ok-check.was) _ c.first_of.ensures
