-- `accept::table::row_fixed` meets its contract: one shape, and one number in each range. Assumes nothing.
use mathlib.Core.Path.{sym, ◌∙◌}
use Rattle.sheet.specs.Placement.{row_fixed}
use Rattle.accept.proofs.table.row_fixed.Goals as goal

pub returns-then-has_one_shape : goal.returns-then-has_one_shape
unfolding row_fixed
returns-then-has_one_shape c = rw (sym c.before.before.has_one_shape.ensures ∙ c.before.if-has_one_shape.true) c.ranges_fixed.ensures

pub returns-else-has_one_shape : goal.returns-else-has_one_shape
unfolding row_fixed
returns-else-has_one_shape c = rw (sym c.before.has_one_shape.ensures ∙ c.if-has_one_shape.false) c.if-has_one_shape.false
