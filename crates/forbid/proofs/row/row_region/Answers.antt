-- `row::row_region` meets its contract: the row itself and a row that is not named forbid nothing. Assumes nothing.
use mathlib.Core.Path.{sym, ◌∙◌}
use Rattle.integers.proofs.Booleans.{not-true, not-false}
use Rattle.words.proofs.Ends.{row-bit}
use Rattle.forbid.proofs.Regions.{missed, forbids-same}
use Rattle.forbid.proofs.Rows.{itself-none, unnamed-none, named_set}
use Rattle.forbid.proofs.row.row_region.Goals as goal

pub returns-then-other-i : goal.returns-then-other-i
returns-then-other-i c = missed (itself-none _ _ _ _ _ _ (sym c.if-other-i.true) _)

pub names_row-requires : goal.names_row-requires
names_row-requires c =
    let w = c.requires in
    (w.rule, w.at_point.accepted.row_sets _ w.rule.below, row-bit w.row)

pub returns-then-not-names_row : goal.returns-then-not-names_row
returns-then-not-names_row c =
    missed (unnamed-none _ _ _ _ _ _ (λ e. c.if-other-i.false (sym e)) (sym c.names_row.ensures ∙ not-true c.if-not-names_row.true-raw) _)

pub set_region-requires : goal.set_region-requires
set_region-requires c = c.requires

pub returns : goal.returns
returns c =
    forbids-same
    (named_set _ _ _ _ _ _ (λ e. c.if-other-i.false (sym e)) (sym c.names_row.ensures ∙ not-false c.if-not-names_row.false-raw))
    (c.set_region.ensures _)
