-- `splits::pick::gain_in_row` meets its contract: the columns one after another. Assumes nothing.
use native.Mathlib.Omega.{arith}
use Rattle.splits.proofs.Picks.{gains-row}
use Rattle.splits.proofs.pick.gain_in_row.Goals as goal

pub returns-2 : goal.returns-2
returns-2 c =
    let r = c.requires.0.row in
    let past = c.axes_of-column-end.ensures in
    gains-row c.args.block.now c.args.table.now c.args.i.number c.gain_in_column-best.result c.requires.0.table r.from r.upto (omega arith)
    c.gain_in_column-best.ensures
