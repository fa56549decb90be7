-- `words::rules_of` meets its contract: the head is whole, and the word is a count. Assumes nothing.
use native.Mathlib.Omega.{arith}
use Rattle.sheet.specs.Layout.{rules}
use Rattle.words.proofs.Ends.{head-ends}
use Rattle.words.proofs.rules_of.Goals as goal

pub count_at-requires : goal.count_at-requires
count_at-requires c = (omega (arith, head-ends c.requires), c.requires.counts 2 (omega arith))

pub returns : goal.returns
unfolding rules
returns c = c.count_at.ensures
