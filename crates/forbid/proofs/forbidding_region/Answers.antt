-- `forbid::forbidding_region` meets its contract: the rules are asked one after another. Assumes nothing.
use borrow.Author.Rules.{rules}
use Rattle.sheet.specs.Allowed.{forbidden}
use Rattle.forbid.specs.Region.{rows_forbid, rule_forbids}
use Rattle.forbid.proofs.Finds.{region_below}
use Rattle.forbid.proofs.forbidding_region.Goals as goal

pub returns : goal.returns
unfolding forbidden rule_forbids rows_forbid
returns c =
    let a = c.args in
    region_below _ (rule_forbids a.block.now a.table.now a.i.number a.s) (λ x y q k. search rules) _ c.rules_of.ensures (search rules)
    c.find_map.ensures.runs
