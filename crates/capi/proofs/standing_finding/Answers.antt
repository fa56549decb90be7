-- `capi::standing_finding` meets its contract, by the answer. Assumes nothing.
use Rattle.words.proofs.Reading.{read_back}
use Rattle.capi.specs.Findings.{standing_finding}
use Rattle.capi.proofs.standing_finding.Goals as goal

pub returns-in-Ok : goal.returns-in-Ok
unfolding standing_finding
returns-in-Ok c = rw (c.in-Ok.is, read_back c.from.ensures c.from.type_inv)

pub returns-in-Err : goal.returns-in-Err
unfolding standing_finding
returns-in-Err c = rw (c.in-Err.is, read_back c.from-in-Err.ensures c.from-in-Err.type_inv)
