-- `outline::rules::counted` meets its contract: so far the set is that of the rules passed. Assumes nothing.
use Rattle.outline.proofs.Counting.{counted_none}
use Rattle.outline.proofs.rules.counted.Goals as goal

pub loop-r-init : goal.loop-r-init
loop-r-init c = counted_none c.args.block.now
