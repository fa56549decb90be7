-- `words::names_row` meets its contract: the rule lies whole in the block, and its set is a count; row i is bit i − 1. Assumes nothing.
use mathlib.Core.Path.{◌∙◌}
use native.Mathlib.Omega.{arith}
use Rattle.sheet.specs.Layout.{row_set, names_row}
use Rattle.words.proofs.Ends.{rule-ends}
use Rattle.integers.proofs.Sets.{set-bit}
use Rattle.words.proofs.names_row.Goals as goal

pub overflow_add-r : goal.overflow_add-r
overflow_add-r c = omega (arith, rule-ends c.requires.0)

pub bit_at-requires : goal.bit_at-requires
unfolding row_set
bit_at-requires c = (omega (arith, rule-ends c.requires.0), rw c.requires.0.stands c.requires.1, omega (arith, c.requires.2.from, c.requires.2.upto))

pub returns : goal.returns
unfolding names_row row_set
returns c = c.bit_at.ensures ∙ rw c.before.requires.0.stands (set-bit _ c.before.args.i c.before.requires.2.from)
