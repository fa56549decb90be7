-- `fill::room::names_every_dim` meets its contract: the dimensions are tested one after another. Assumes nothing.
use Rattle.std.proofs.Common.{rules, tests}
use Rattle.sheet.specs.Layout.{dims, names_dim}
use Rattle.integers.proofs.Scans.{all_in_range}
use Rattle.fill.proofs.room.names_every_dim.Goals as goal

pub returns : goal.returns
returns c =
    let a = c.args in
    all_in_range (dims a.block.now) (names_dim a.block.now a.r.number) _ _ _ c.all.ensures.ran (search rules)
    (λ x b q k. search (rules, tests))
