-- `accept::table::ranges_fixed` meets its contract: each range is tested. Assumes nothing.
use Rattle.std.proofs.Common.{rules, tests}
use Rattle.integers.proofs.Scans.{all_in_range}
use Rattle.sheet.specs.Layout.{axes}
use Rattle.accept.specs.Parts.{fixed_range}
use Rattle.accept.proofs.Words.{same-read}
use Rattle.accept.proofs.table.ranges_fixed.Goals as goal

pub returns : goal.returns
returns c =
    let a = c.args in
    all_in_range (axes a.block.now) (fixed_range a.block.now a.table.now a.i.number) _ _ _ c.all.ensures.ran (search rules)
    (λ x b q k. search (rules, tests, same-read))
