-- `capi::zk_relation` meets its contract: the finding of what `relate::relation` answers. Assumes nothing.
use mathlib.Core.Path.{ap, ◌∙◌}
use mir.Facts.{to_z-of_z}
use Rattle.capi.specs.Findings.{standing_finding}
use Rattle.capi.proofs.zk_relation.Goals as goal

pub returns : goal.returns
returns c =
    let f = c.ranges in
    c.standing_finding.ensures
    ∙ ap standing_finding (simp (to_z-of_z f.row, to_z-of_z f.other, to_z-of_z f.dimension) at c.relation.ensures)
