-- `words::high_of` meets its contract: the row lies whole in the table. Assumes nothing.
use mathlib.Core.Path.{◌∙◌}
use native.Mathlib.Omega.{arith}
use Rattle.sheet.specs.Layout.{high}
use Rattle.words.proofs.Ends.{row_ends}
use Rattle.words.proofs.Reading.{read_back}
use Rattle.words.proofs.high_of.Goals as goal

pub overflow_add-i : goal.overflow_add-i
overflow_add-i c = omega (arith, row_ends c.requires.0)

pub overflow_add-i-2 : goal.overflow_add-i-2
overflow_add-i-2 c = omega (arith, row_ends c.requires.0)

pub word_at-requires : goal.word_at-requires
word_at-requires c = omega (arith, row_ends c.requires.0)

pub returns : goal.returns
unfolding high
returns c = read_back c.word_at.ensures c.word_at.type_inv ∙ rw c.before.requires.0.stands
