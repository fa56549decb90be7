-- `forbid::rule_region` meets its contract: a rule of another kind, or one that does not name the row, forbids nothing. Assumes nothing.
use mathlib.Core.Path.{sym, ◌∙◌}
use Rattle.integers.proofs.Booleans.{not-true, not-false}
use Rattle.forbid.specs.Region.{rule_forbids}
use Rattle.words.proofs.Ends.{row-bit}
use Rattle.forbid.proofs.Regions.{missed, forbids-and}
use Rattle.forbid.proofs.rule_region.Goals as goal

pub rule_place-rule-requires : goal.rule_place-rule-requires
rule_place-rule-requires c = (c.requires.0.accepted.head, c.requires.2)

pub is_non_overlap_of-requires : goal.is_non_overlap_of-requires
is_non_overlap_of-requires c =
    let w = c.requires in
    (w.0.accepted, c.rule_place-rule.ensures.0, row-bit w.1)

pub returns-then-not-is_non_overlap_of : goal.returns-then-not-is_non_overlap_of
unfolding rule_forbids
returns-then-not-is_non_overlap_of c =
    missed (rw (← c.rule_place-rule.ensures.1, sym c.is_non_overlap_of.ensures ∙ not-true c.if-not-is_non_overlap_of.true-raw))

pub rows_region-requires : goal.rows_region-requires
rows_region-requires c = (c.requires.0, c.rule_place-rule.ensures.0)

pub returns : goal.returns
unfolding rule_forbids
returns c =
    rw (← c.rule_place-rule.ensures.1)
    (forbids-and (sym c.is_non_overlap_of.ensures ∙ not-false c.if-not-is_non_overlap_of.false-raw) c.rows_region.ensures)
