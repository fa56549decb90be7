-- `words::room_high` meets its contract: the rule lies whole in the block. Assumes nothing.
use mathlib.Core.Path.{◌∙◌}
use native.Mathlib.Omega.{arith}
use Rattle.sheet.specs.Layout.{room_high}
use Rattle.words.proofs.Ends.{rule-ends}
use Rattle.words.proofs.Reading.{read_back}
use Rattle.words.proofs.room_high.Goals as goal

pub overflow_add-r : goal.overflow_add-r
overflow_add-r c = omega (arith, rule-ends c.requires.0)

pub overflow_add-r-2 : goal.overflow_add-r-2
overflow_add-r-2 c = omega (arith, rule-ends c.requires.0)

pub word_at-requires : goal.word_at-requires
word_at-requires c = omega (arith, rule-ends c.requires.0)

pub returns : goal.returns
unfolding room_high
returns c = read_back c.word_at.ensures c.word_at.type_inv ∙ rw c.before.requires.0.stands
