-- `layout::check` meets its contract: the sheet's refusal comes first. Assumes nothing.
use mathlib.Core.Path.{◌≡◌, ap}
use native.Mathlib.Omega.{arith}
use borrow.Author.Tests.{lt-ltb, le-ltb}
use lib.Dec.{ltb}
use Rattle.std.proofs.Common.{rules}
use Rattle.sheet.specs.Layout.{layout_rows_most}
use Rattle.sheet.specs.Refusal.{too_many_rows, refusal_layout, ground, grounds}
use Rattle.sheet.proofs.Accepted.{accepted-head}
use Rattle.sheet.proofs.Answer.{passed, handed_on}
use Rattle.accept.proofs.Chain.{refused-last, passed-last, else-second}
use Rattle.layout.proofs.check.Goals as goal

pub returns-in_err-check : goal.returns-in_err-check
unfolding refusal_layout
returns-in_err-check c = handed_on _ _ _ _ c.check.ensures c.in_err-check.was (search rules)

pub rows_of-requires : goal.rows_of-requires
rows_of-requires c = accepted-head _ _ (passed _ _ c.check.ensures c.in_ok-check.was)

pub returns-then-rows_of-gt-LAYOUT_ROWS : goal.returns-then-rows_of-gt-LAYOUT_ROWS
unfolding refusal_layout too_many_rows ground grounds
returns-then-rows_of-gt-LAYOUT_ROWS c =
    refused-last 15 (else-second _ (passed _ _ c.check.ensures c.in_ok-check.was)) (ap (ltb layout_rows_most) c.rows_of.ensures)
    (lt-ltb layout_rows_most c.rows_of.result (omega (arith, c.if-rows_of-gt-LAYOUT_ROWS.true)))

pub returns : goal.returns
unfolding refusal_layout too_many_rows
returns c =
    passed-last 16 (else-second _ (passed _ _ c.check.ensures c.in_ok-check.was)) (ap (ltb layout_rows_most) c.rows_of.ensures)
    (le-ltb layout_rows_most c.rows_of.result (omega (arith, c.if-rows_of-gt-LAYOUT_ROWS.false)))
