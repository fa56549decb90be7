-- `words::shape_number` meets its contract: the box lies whole in the block, and its shape is a count. Assumes nothing.
use mathlib.Core.Path.{◌∙◌}
use native.Mathlib.Omega.{arith}
use Rattle.words.proofs.Ends.{box-ends}
use Rattle.sheet.specs.Layout.{shape_of}
use Rattle.words.proofs.shape_number.Goals as goal

pub count_at-requires : goal.count_at-requires
unfolding shape_of
count_at-requires c = (omega (arith, box-ends c.requires.0), rw c.requires.0.stands c.requires.1)

pub returns : goal.returns
unfolding shape_of
returns c = c.count_at.ensures ∙ rw c.before.requires.0.stands
