-- `words::axes_of` meets its contract: today a row has a range for each dimension. Assumes nothing.
use Rattle.sheet.specs.Layout.{axes}
use Rattle.words.proofs.axes_of.Goals as goal

pub returns : goal.returns
unfolding axes
returns c = c.dims_of.ensures
