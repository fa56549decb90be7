-- `pair::side_forbids` meets its contract: a dimension that is not named clears nothing. Assumes nothing.
use mathlib.Core.Path.{sym, ◌∙◌}
use mir.Facts.{to_z-of_z}
use Rattle.integers.proofs.Booleans.{not-true, not-false, implies-in, implies-out}
use Rattle.points.proofs.Sums.{near-back}
use Rattle.forbid.specs.Pair.{side_forbids}
use Rattle.forbid.proofs.pair.side_forbids.Goals as goal

pub names_dim-requires : goal.names_dim-requires
names_dim-requires c =
    let w = c.requires.0 in
    (w.rule, w.accepted.dim_sets _ w.rule.below, c.requires.1)

pub returns-then-not-names_dim : goal.returns-then-not-names_dim
unfolding side_forbids
returns-then-not-names_dim c = sym (implies-out _ (sym c.names_dim.ensures ∙ not-true c.if-not-names_dim.true-raw))

pub interval_of-interval-requires : goal.interval_of-interval-requires
interval_of-interval-requires c = c.requires

pub is_within-requires : goal.is_within-requires
is_within-requires c = tt

pub returns : goal.returns
unfolding side_forbids
returns c =
    let f = c.interval_of-interval.ensures in
    c.is_within.ensures
    ∙ rw (near-back f.from_within, near-back f.to_within, to_z-of_z c.ranges.x, f.from, f.to)
    (sym (implies-in _ (sym c.names_dim.ensures ∙ not-false c.if-not-names_dim.false-raw)))
