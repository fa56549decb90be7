-- `accept::table::valid_ranges` meets its contract: each range is tested. Assumes nothing.
use Rattle.std.proofs.Common.{rules, tests}
use Rattle.integers.proofs.Scans.{all_in_range}
use Rattle.sheet.specs.Layout.{axes}
use Rattle.accept.specs.Parts.{valid_row_range}
use Rattle.accept.proofs.table.valid_ranges.Goals as goal

pub returns : goal.returns
returns c =
    let a = c.args in
    all_in_range (axes a.block.now) (valid_row_range a.block.now a.table.now a.i.number) _ _ _ c.all.ensures.ran (search rules)
    (λ x b q k. search (rules, tests))
