-- `capi::zk_point_allowed` meets its contract: the finding of what `placement::point_allowed` answers. Assumes nothing.
use mathlib.Core.Path.{ap, ◌∙◌}
use mir.Facts.{to_z-of_z}
use Rattle.words.proofs.Reading.{read_back}
use Rattle.capi.specs.Findings.{finding}
use Rattle.capi.proofs.zk_point_allowed.Goals as goal

pub returns : goal.returns
returns c =
    let f = c.ranges in
    let e = simp (to_z-of_z f.row, to_z-of_z f.shape, to_z-of_z f.p0, to_z-of_z f.p1, to_z-of_z f.p2, to_z-of_z f.p3)
    at c.point_allowed.ensures in
    read_back (c.finding.ensures ∙ ap finding e) c.finding.type_inv
