-- `splits::pick::pick` meets its contract: where nothing is gained the table is fixed. Assumes nothing.
use Rattle.splits.proofs.Picks.{gains-fixed}
use Rattle.splits.proofs.pick.pick.Goals as goal

pub returns-in_err-best : goal.returns-in_err-best
returns-in_err-best c = rw c.from_residual.ensures (gains-fixed c.args.block.now c.args.table.now c.in_err-best.ensures)
