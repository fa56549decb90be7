-- `words::dim_set_of` meets its contract: the rule lies whole in the block. Assumes nothing.
use mathlib.Core.Path.{◌∙◌}
use native.Mathlib.Omega.{arith}
use Rattle.sheet.specs.Layout.{dim_set}
use Rattle.words.proofs.Ends.{rule-ends}
use Rattle.words.proofs.Reading.{read_back}
use Rattle.words.proofs.dim_set_of.Goals as goal

pub overflow_add-r : goal.overflow_add-r
overflow_add-r c = omega (arith, rule-ends c.requires)

pub word_at-requires : goal.word_at-requires
word_at-requires c = omega (arith, rule-ends c.requires)

pub returns : goal.returns
unfolding dim_set
returns c = read_back c.word_at.ensures c.word_at.type_inv ∙ rw c.before.requires.stands
