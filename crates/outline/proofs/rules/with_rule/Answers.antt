-- `outline::rules::with_rule` meets its contract: the rule is of another kind, or covered, or counts. Assumes nothing.
use mathlib.Core.Path.{◌≡◌}
use mathlib.Core.Bool.{true}
use Rattle.sheet.specs.Layout.{is_non_overlap}
use Rattle.outline.proofs.Counting.{counted-more}
use Rattle.outline.proofs.rules.with_rule.Goals as goal

pub returns : goal.returns
returns c =
    let kind : is_non_overlap c.args.block.now c.args.r ≡ true = cc c.if-not-is_non_overlap.ensures in
    rw c.with_member.ensures (counted-more c.requires.2 kind)
