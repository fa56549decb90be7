-- `accept::block::bad_rule` meets its contract: each rule is tested. Assumes nothing.
use mathlib.Core.Path.{ap}
use mathlib.Core.Bool.{not}
use Rattle.std.proofs.Common.{rules, tests}
use Rattle.integers.proofs.Scans.{all_in_range}
use Rattle.sheet.specs.Layout.{rows, valid_rule}
use Rattle.sheet.specs.Refusal.{bad_rule}
use Rattle.accept.proofs.block.bad_rule.Goals as goal

pub returns : goal.returns
unfolding bad_rule
returns c =
    let a = c.args in
    ap not (all_in_range _ (valid_rule a.block.now (rows a.block.now a.table.now)) _ _ _ c.all.ensures.ran (search rules)
    (λ x b q k. search (rules, tests)))
