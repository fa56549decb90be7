-- `capi::share_finding` meets its contract, by the answer. Assumes nothing.
use mir.Facts.{to_z_pos}
use mir.Syntax.{w64}
use Rattle.words.proofs.Reading.{read_back}
use Rattle.capi.specs.Findings.{share_finding}
use Rattle.capi.proofs.share_finding.Goals as goal

pub returns-in-Ok : goal.returns-in-Ok
unfolding share_finding
returns-in-Ok c =
    let small = rw c.in-Ok.is at c.requires in
    rw (c.in-Ok.is, to_z_pos w64 small.0, to_z_pos w64 small.1)

pub returns-in-Err : goal.returns-in-Err
unfolding share_finding
returns-in-Err c = rw (c.in-Err.is, read_back c.from.ensures c.from.type_inv)
