-- `row::forbidding_boxes` meets its contract: so far no pair of boxes forbids the point, and the first that does is found. Assumes nothing.
use mathlib.Core.Path.{sym, ◌∙◌}
use Rattle.outline.proofs.Solids.{shape-few}
use Rattle.forbid.proofs.Solids.{hull-box-places, box-places}
use Rattle.forbid.proofs.Chains.{walk-box, walk-next, walk-over, clear-hull, all-clear}
use Rattle.forbid.proofs.row.forbidding_boxes.Goals as goal
use Rattle.forbid.proofs.row.forbidding_boxes.Goals.{then-pair_forbids+in_default-own_box, else-pair_forbids}

pub hull_of-hull-requires : goal.hull_of-hull-requires
hull_of-hull-requires c = let w = c.requires.0.at_point in shape-few w.accepted w.own

pub first_of-other_box-requires : goal.first_of-other_box-requires
first_of-other_box-requires c =
    let w = c.requires.0.at_point in
    (w.outline.chained, shape-few w.accepted c.requires.1)

pub pair_forbids-requires : goal.pair_forbids-requires
pair_forbids-requires c =
    let w = c.requires.0 in
    let a = w.at_point in
    hull-box-places a.accepted a.table a.outline w.rule w.row c.hull_of-hull.ensures a.own (walk-box c.in-Some.is c.pairs.invariant.1).0

pub first_of-own_box-requires : goal.first_of-own_box-requires
first_of-own_box-requires c = let w = c.requires.0.at_point in (w.outline.chained, shape-few w.accepted w.own)

pub pair_forbids-requires-in-Some-own_box : goal.pair_forbids-requires-in-Some-own_box
pair_forbids-requires-in-Some-own_box c =
    let w = c.requires.0 in
    box-places w.at_point.accepted w.at_point.table w.at_point.outline w.rule w.row
    (walk-box c.in-Some-own_box.is c.loop-own_box.invariant.1).0 (walk-box c.in-Some.is c.pairs.invariant.1).0

pub loop-own_box-preserved : goal.loop-own_box-preserved
loop-own_box-preserved c = (
  c.loop-own_box.invariant.0,
  walk-next c.in-Some-own_box.is c.loop-own_box.invariant.1 _ (sym c.pair_forbids-in-Some-own_box.ensures ∙ c.if-pair_forbids-2.false)
      c.after-own_box.ensures,
)

pub pairs-preserved : goal.pairs-preserved
pairs-preserved c =
    let w = c.requires.0.at_point in
    elim c.if-pair_forbids.branch [
      | then-pair_forbids+in_default-own_box x ↦ (
        x.found-is ∙ x.loop-own_box.invariant.0,
        walk-next c.in-Some.is c.pairs.invariant.1 _ (walk-over x.in_default-own_box.is x.loop-own_box.invariant.1) c.after-other_box.ensures,
      )
      | else-pair_forbids x ↦ (
        x.found-is ∙ c.pairs.invariant.0,
        walk-next c.in-Some.is c.pairs.invariant.1 _
            (clear-hull _ _ _ _ _ _ _ w.outline _ c.hull_of-hull.ensures w.own (sym c.pair_forbids.ensures ∙ x.if-pair_forbids.false))
            c.after-other_box.ensures,
      )
    ]

pub returns-in_default : goal.returns-in_default
returns-in_default c =
    rw c.pairs.invariant.0
    (record { pair = tt; none = λ i. all-clear _ _ _ _ _ _ _ c.requires.0.at_point.outline i (walk-over c.in_default.is c.pairs.invariant.1) })
