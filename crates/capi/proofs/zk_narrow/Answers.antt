-- `capi::zk_narrow` meets its contract: the finding of what `narrow::narrow` answers, and the table as it leaves it. Assumes nothing.
use mathlib.Core.Path.{ap, ◌∙◌}
use mir.Facts.{to_z-of_z}
use Rattle.words.proofs.Reading.{read_back}
use Rattle.capi.specs.Findings.{finding}
use Rattle.capi.proofs.zk_narrow.Goals as goal

pub returns : goal.returns
returns c =
    let e = simp (to_z-of_z c.ranges.row) at c.narrow.ensures in
    (read_back (c.finding.ensures ∙ ap finding e.0) c.finding.type_inv, e.1)
