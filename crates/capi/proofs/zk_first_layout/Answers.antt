-- `capi::zk_first_layout` meets its contract: the finding of what `layout::first_layout` answers, and the table as it leaves it. Assumes nothing.
use mathlib.Core.Path.{ap, ◌∙◌}
use Rattle.words.proofs.Reading.{read_back}
use Rattle.capi.specs.Findings.{finding}
use Rattle.capi.proofs.zk_first_layout.Goals as goal

pub returns : goal.returns
returns c =
    let e = c.first_layout.ensures in
    (read_back (c.finding.ensures ∙ ap finding e.0) c.finding.type_inv, e.1)
