-- `fill::room::is_fill_rule` meets its contract, by its two tests. Assumes nothing.
use mathlib.Core.Path.{sym, ◌∙◌}
use Rattle.sheet.specs.Fill.{is_fill_rule}
use Rattle.fill.proofs.room.is_fill_rule.Goals as goal

pub is_containment-requires : goal.is_containment-requires
is_containment-requires c = (c.requires.1, c.requires.0.kinds _ c.requires.1.below)

pub names_every_dim-requires : goal.names_every_dim-requires
names_every_dim-requires c = c.requires

pub returns-then-is_containment : goal.returns-then-is_containment
unfolding is_fill_rule
returns-then-is_containment c = rw (sym c.is_containment.ensures ∙ c.if-is_containment.true) c.names_every_dim.ensures

pub returns-else-is_containment : goal.returns-else-is_containment
unfolding is_fill_rule
returns-else-is_containment c = rw (sym c.is_containment.ensures ∙ c.if-is_containment.false) c.if-is_containment.false
