-- `judge::is_forbidden` meets its contract: the rules are asked one after another. Assumes nothing.
use Rattle.std.proofs.Common.{rules, tests}
use Rattle.integers.proofs.Scans.{any_in_range}
use Rattle.placement.specs.Before.{rule_forbids_before, forbidden_before}
use Rattle.placement.proofs.judge.is_forbidden.Goals as goal

pub returns : goal.returns
unfolding forbidden_before
returns c =
    let a = c.args in
    any_in_range _ (rule_forbids_before a.block.now a.table.now a.i.number a.s a.p) _ _ _ c.any.ensures.ran (search rules)
    (λ x b q k. search (rules, tests))
