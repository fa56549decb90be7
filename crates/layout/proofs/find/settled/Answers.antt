-- `layout::find::settled` meets its contract: an accepted sheet is not refused. Assumes nothing.
use Rattle.layout.proofs.Settles.{settled-to}
use Rattle.layout.proofs.find.settled.Goals as goal

pub returns : goal.returns
returns c = settled-to _ _ c.requires c.settle.ensures c.unwrap_or.ensures
