-- `splits::pick::open_column` meets its contract: the columns passed have one value each. Assumes nothing.
use native.Mathlib.Omega.{arith}
use Rattle.std.proofs.Common.{rules, tests}
use Rattle.std.proofs.lemmas.Iterator.{first_from_Range}
use Rattle.sheet.specs.Cuts.{Single}
use Rattle.splits.specs.Splits.{Several}
use Rattle.splits.proofs.Picks.{column-found}
use Rattle.splits.proofs.pick.open_column.Goals as goal

pub returns : goal.returns
returns c =
    let b = c.args.block.now in
    let t = c.args.table.now in
    let i = c.args.i.number in
    let row = c.requires.row in
    let k = c.axes_of-columns.ensures in
    column-found b t c.find.result (omega arith) c.requires.table row.from row.upto
    (first_from_Range _ _ _ c.find.result (Several b t i) (Single b t i) c.find.ensures.ran
    (λ x q k. search (rules, tests)) (λ x q k. search (rules, tests)))
