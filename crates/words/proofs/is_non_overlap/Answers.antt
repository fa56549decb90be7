-- `words::is_non_overlap` meets its contract: the rule lies whole in the block, and its kind is a count. Assumes nothing.
use mathlib.Core.Path.{◌∙◌}
use native.Mathlib.Omega.{arith}
use Rattle.sheet.specs.Layout.{kind, is_non_overlap}
use Rattle.words.proofs.Ends.{rule-ends}
use Rattle.words.proofs.is_non_overlap.Goals as goal

pub word_is-requires : goal.word_is-requires
unfolding kind
word_is-requires c = (omega (arith, rule-ends c.requires.0), rw c.requires.0.stands c.requires.1)

pub returns : goal.returns
unfolding is_non_overlap kind
returns c = c.word_is.ensures ∙ rw c.before.requires.0.stands
