-- `judge::rule_forbids` meets its contract: a rule of another kind, or one that does not name the row, forbids nothing. Assumes nothing.
use mathlib.Core.Path.{sym, ◌∙◌}
use Rattle.words.proofs.Ends.{row-bit}
use Rattle.placement.specs.Before.{rule_forbids_before}
use Rattle.placement.proofs.judge.rule_forbids.Goals as goal

pub rule_place-rule-requires : goal.rule_place-rule-requires
rule_place-rule-requires c = (c.requires.0.sheet.accepted.head, c.requires.1)

pub is_non_overlap_of-requires : goal.is_non_overlap_of-requires
is_non_overlap_of-requires c =
    let w = c.requires.0 in
    (w.sheet.accepted, c.rule_place-rule.ensures.0, row-bit w.row)

pub rows_forbid-requires : goal.rows_forbid-requires
rows_forbid-requires c = (c.requires.0, c.rule_place-rule.ensures.0)

pub returns-then-is_non_overlap_of : goal.returns-then-is_non_overlap_of
unfolding rule_forbids_before
returns-then-is_non_overlap_of c =
    rw (← c.rule_place-rule.ensures.1, sym c.is_non_overlap_of.ensures ∙ c.if-is_non_overlap_of.true) c.rows_forbid.ensures

pub returns-else-is_non_overlap_of : goal.returns-else-is_non_overlap_of
unfolding rule_forbids_before
returns-else-is_non_overlap_of c =
    rw (← c.rule_place-rule.ensures.1, ← c.is_non_overlap_of.ensures, c.if-is_non_overlap_of.false)
