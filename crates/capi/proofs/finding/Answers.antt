-- `capi::finding` meets its contract, by the answer. Assumes nothing.
use Rattle.words.proofs.Reading.{read_back}
use Rattle.capi.specs.Findings.{finding}
use Rattle.capi.proofs.finding.Goals as goal

pub returns-in-Ok-true : goal.returns-in-Ok-true
unfolding finding
returns-in-Ok-true c = rw (c.in-Ok-true.is, c.in-Ok-true.field-0-test)

pub returns-in-Ok-false : goal.returns-in-Ok-false
unfolding finding
returns-in-Ok-false c = rw (c.in-Ok-false.is, c.in-Ok-false.field-0-test)

pub returns-in-Err : goal.returns-in-Err
unfolding finding
returns-in-Err c = rw c.in-Err.is (read_back c.from.ensures c.from.type_inv)
