-- `words::names_dim` meets its contract: the rule lies whole in the block, and its set is a count. Assumes nothing.
use mathlib.Core.Path.{◌∙◌}
use native.Mathlib.Omega.{arith}
use Rattle.sheet.specs.Layout.{dim_set, names_dim}
use Rattle.words.proofs.Ends.{rule-ends}
use Rattle.words.proofs.names_dim.Goals as goal

pub overflow_add-r : goal.overflow_add-r
overflow_add-r c = omega (arith, rule-ends c.requires.0)

pub bit_at-requires : goal.bit_at-requires
unfolding dim_set
bit_at-requires c =
    (omega (arith, rule-ends c.requires.0), rw c.requires.0.stands c.requires.1, omega (arith, c.requires.0.head.few_dims, c.requires.2))

pub returns : goal.returns
unfolding names_dim dim_set
returns c = c.bit_at.ensures ∙ rw c.before.requires.0.stands
