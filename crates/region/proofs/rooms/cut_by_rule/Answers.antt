-- `rooms::cut_by_rule` meets its contract: a rule that keeps the row in a room cuts, another does not. Assumes nothing.
use mathlib.Core.Path.{sym, ◌∙◌}
use Rattle.region.specs.Rooms.{room_holds}
use Rattle.points.proofs.Cut.{cuts-in, cuts-out}
use Rattle.region.proofs.rooms.cut_by_rule.Goals as goal

pub returns-then-is_room_of : goal.returns-then-is_room_of
unfolding room_holds
returns-then-is_room_of c =
    rw (← c.rule_place-rule.ensures.1) (cuts-in (sym c.is_room_of.ensures ∙ c.if-is_room_of.true) c.cut_by_shape.ensures)

pub returns-else-is_room_of : goal.returns-else-is_room_of
unfolding room_holds
returns-else-is_room_of c =
    rw (← c.rule_place-rule.ensures.1) (cuts-out _ (sym c.is_room_of.ensures ∙ c.if-is_room_of.false))
