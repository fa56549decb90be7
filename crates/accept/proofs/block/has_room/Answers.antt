-- `accept::block::has_room` meets its contract: the two tests of the definition. Assumes nothing.
use mathlib.Core.Path.{sym, ◌∙◌}
use Rattle.accept.proofs.block.has_room.Goals as goal

pub returns-then-is_containment : goal.returns-then-is_containment
returns-then-is_containment c = rw (sym c.before.before.is_containment.ensures ∙ c.before.if-is_containment.true) c.names_dim.ensures

pub returns-else-is_containment : goal.returns-else-is_containment
returns-else-is_containment c = rw (sym c.before.is_containment.ensures ∙ c.if-is_containment.false) c.if-is_containment.false
