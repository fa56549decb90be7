-- `capi::zk_check_placement` meets its contract: the finding of what `placement::check_placement` answers. Assumes nothing.
use mathlib.Core.Path.{ap, ◌∙◌}
use Rattle.words.proofs.Reading.{read_back}
use Rattle.capi.specs.Findings.{finding}
use Rattle.capi.proofs.zk_check_placement.Goals as goal

pub returns : goal.returns
returns c = read_back (c.finding.ensures ∙ ap finding c.check_placement.ensures) c.finding.type_inv
