-- `capi::zk_greatest` meets its contract: the finding of what `bounds::greatest` answers. Assumes nothing.
use mathlib.Core.Path.{ap, ◌∙◌}
use mir.Facts.{to_z-of_z}
use Rattle.capi.specs.Findings.{bound_finding}
use Rattle.capi.proofs.zk_greatest.Goals as goal

pub returns : goal.returns
returns c =
    let f = c.ranges in
    c.bound_finding.ensures
    ∙ ap bound_finding (simp (to_z-of_z f.row, to_z-of_z f.shape, to_z-of_z f.dimension) at c.greatest.ensures)
