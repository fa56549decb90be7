-- `words::has_shape` meets its contract: the row lies whole in the table, and its set is a count; shape s is bit s − 1. Assumes nothing.
use mathlib.Core.Path.{◌∙◌}
use native.Mathlib.Omega.{arith}
use Rattle.sheet.specs.Layout.{shape_set, has_shape}
use Rattle.words.proofs.Ends.{row_ends}
use Rattle.integers.proofs.Sets.{set-bit}
use Rattle.words.proofs.has_shape.Goals as goal

pub bit_at-requires : goal.bit_at-requires
unfolding shape_set
bit_at-requires c = (omega (arith, row_ends c.requires.0), rw c.requires.0.stands c.requires.1, omega (arith, c.requires.2.from, c.requires.2.upto))

pub returns : goal.returns
unfolding has_shape shape_set
returns c = c.bit_at.ensures ∙ rw c.before.requires.0.stands (set-bit _ c.before.args.s c.before.requires.2.from)
