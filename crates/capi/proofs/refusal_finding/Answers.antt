-- `capi::refusal_finding` meets its contract, by the answer. Assumes nothing.
use Rattle.words.proofs.Reading.{read_back}
use Rattle.capi.specs.Findings.{refusal_finding}
use Rattle.capi.proofs.refusal_finding.Goals as goal

pub returns-in-Ok : goal.returns-in-Ok
unfolding refusal_finding
returns-in-Ok c = rw c.in-Ok.is

pub returns-in-Err : goal.returns-in-Err
unfolding refusal_finding
returns-in-Err c = rw c.in-Err.is (read_back c.from.ensures c.from.type_inv)
