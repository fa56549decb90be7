-- `words::shapes_of` meets its contract: the row lies whole in the table, and its set is a count. Assumes nothing.
use mathlib.Core.Path.{◌∙◌}
use native.Mathlib.Omega.{arith}
use Rattle.sheet.specs.Layout.{shape_set}
use Rattle.words.proofs.Ends.{row_ends}
use Rattle.words.proofs.shapes_of.Goals as goal

pub set_at-requires : goal.set_at-requires
unfolding shape_set
set_at-requires c = (omega (arith, row_ends c.requires.0), rw c.requires.0.stands c.requires.1)

pub returns : goal.returns
unfolding shape_set
returns c = c.set_at.ensures ∙ rw c.before.requires.0.stands
