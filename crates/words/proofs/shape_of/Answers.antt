-- `words::shape_of` meets its contract: the box lies whole in the block. Assumes nothing.
use mathlib.Core.Path.{◌∙◌}
use native.Mathlib.Omega.{arith}
use Rattle.sheet.specs.Layout.{shape_of}
use Rattle.words.proofs.Ends.{box-ends}
use Rattle.words.proofs.Reading.{read_back}
use Rattle.words.proofs.shape_of.Goals as goal

pub word_at-requires : goal.word_at-requires
word_at-requires c = omega (arith, box-ends c.requires)

pub returns : goal.returns
unfolding shape_of
returns c = read_back c.word_at.ensures c.word_at.type_inv ∙ rw c.before.requires.stands
