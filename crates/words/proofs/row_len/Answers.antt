-- `words::row_len` meets its contract: the code's sum is the definition's. Assumes nothing.
use Rattle.sheet.specs.Layout.{row_len}
use Rattle.words.proofs.row_len.Goals as goal

pub returns : goal.returns
unfolding row_len
returns c = rw c.axes_of.ensures
