-- `capi::zk_row_refusal` meets its contract: the finding of what `accept::check_row` answers is the refusal's number. Assumes nothing.
use mathlib.Core.Path.{ap, ◌∙◌}
use mir.Facts.{to_z-of_z}
use Rattle.words.proofs.Reading.{read_back}
use Rattle.capi.specs.Findings.{refusal_finding}
use Rattle.capi.proofs.Numbers.{row-most, checked}
use Rattle.capi.proofs.zk_row_refusal.Goals as goal

pub returns : goal.returns
returns c =
    let f = c.refusal_finding in
    let e = simp (to_z-of_z c.ranges.row) at c.check_row.ensures in
    read_back (f.ensures ∙ ap refusal_finding e ∙ checked _ (row-most c.args.block.now c.args.table.now c.args.row)) f.type_inv
