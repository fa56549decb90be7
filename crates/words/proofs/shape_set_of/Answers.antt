-- `words::shape_set_of` meets its contract: the row lies whole in the table. Assumes nothing.
use mathlib.Core.Path.{◌∙◌}
use native.Mathlib.Omega.{arith}
use Rattle.sheet.specs.Layout.{shape_set}
use Rattle.words.proofs.Ends.{row_ends}
use Rattle.words.proofs.Reading.{read_back}
use Rattle.words.proofs.shape_set_of.Goals as goal

pub word_at-requires : goal.word_at-requires
word_at-requires c = omega (arith, row_ends c.requires)

pub returns : goal.returns
unfolding shape_set
returns c = read_back c.word_at.ensures c.word_at.type_inv ∙ rw c.before.requires.stands
