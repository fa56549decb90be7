-- `capi::zk_refusal` meets its contract: the finding of what `accept::check` answers is the refusal's number. Assumes nothing.
use mathlib.Core.Path.{ap, ◌∙◌}
use Rattle.words.proofs.Reading.{read_back}
use Rattle.capi.specs.Findings.{refusal_finding}
use Rattle.capi.proofs.Numbers.{refusal-most, checked}
use Rattle.capi.proofs.zk_refusal.Goals as goal

pub returns : goal.returns
returns c =
    let f = c.refusal_finding in
    read_back (f.ensures ∙ ap refusal_finding c.check.ensures ∙ checked _ (refusal-most c.args.block.now c.args.table.now)) f.type_inv
