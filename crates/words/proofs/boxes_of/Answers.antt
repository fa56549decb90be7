-- `words::boxes_of` meets its contract: the head is whole, and the word is a count. Assumes nothing.
use native.Mathlib.Omega.{arith}
use Rattle.sheet.specs.Layout.{boxes}
use Rattle.words.proofs.Ends.{head-ends}
use Rattle.words.proofs.boxes_of.Goals as goal

pub count_at-requires : goal.count_at-requires
count_at-requires c = (omega (arith, head-ends c.requires), c.requires.counts 1 (omega arith))

pub returns : goal.returns
unfolding boxes
returns c = c.count_at.ensures
