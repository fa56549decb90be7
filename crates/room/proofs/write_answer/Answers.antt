-- `write_answer` meets its contract, by the finding. Assumes nothing.
use mir.Facts.{to_z-of_z}
use Rattle.std.proofs.Common.{rules, FitsSigned, w64}
use Rattle.sheet.specs.Text.{ascii, printed_for}
use Rattle.room.specs.Answers.{printed_of}
use Rattle.room.proofs.write_answer.Goals as goal

pub returns-in-Ok-true : goal.returns-in-Ok-true
unfolding printed_of
returns-in-Ok-true c = rw (c.in-Ok-true.is, c.in-Ok-true.field-0-test) c.put_settled.ensures

pub returns-in-Ok-false : goal.returns-in-Ok-false
unfolding printed_of printed_for ascii
returns-in-Ok-false c = rw (c.in-Ok-false.is, c.in-Ok-false.field-0-test) c.put_all.ensures

pub returns-in-Err : goal.returns-in-Err
unfolding printed_of
returns-in-Err c =
    let fits : FitsSigned w64 c.from.result = search rules in
    rw c.in-Err.is (rw (to_z-of_z fits, c.from.ensures) at c.put_refused.ensures)
