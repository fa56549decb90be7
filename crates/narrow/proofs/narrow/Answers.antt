-- `narrow` meets its contract: a refusal is handed on, and otherwise the checks leave what `narrow_in` asks. Assumes nothing.
use mathlib.Core.Path.{◌∙◌}
use mir.Facts.{to_z-of_z}
use borrow.Author.Rules.{rules}
use Rattle.integers.proofs.Machine.{cast_ok}
use Rattle.sheet.proofs.Accepted.{accepted-head, accepted-rows, accepted-block}
use Rattle.words.proofs.Reading.{cast-nat}
use Rattle.accept.proofs.Numbers.{row_upto}
use Rattle.narrow.proofs.Calls.{asked, on-row, answered-by, refused-by}
use Rattle.narrow.proofs.narrow.Goals as goal

pub returns-in_err-check_row : goal.returns-in_err-check_row
returns-in_err-check_row c = refused-by _ _ _ _ (simp (to_z-of_z c.ranges.row) at c.check_row.ensures) c.in_err-check_row.was (search rules)

pub overflow_cast-row : goal.overflow_cast-row
overflow_cast-row c =
    let n = (asked c.args.block.now c.args.table.now c.ranges.row (search rules)).number.count in
    cast_ok n.from n.upto tt tt

pub row_place-i-requires : goal.row_place-i-requires
row_place-i-requires c =
    let a = asked c.args.block.now c.args.table.now c.ranges.row (search rules) in
    let row_is = cast-nat c.args.row c.ranges.row.sfits a.number.count in
    (accepted-head _ _ a.accepted, accepted-rows _ _ a.accepted, rw row_is (row_upto a.number))

pub draw-requires : goal.draw-requires
draw-requires c = accepted-block _ _ (asked c.args.block.now c.args.table.now c.ranges.row (search rules)).accepted

pub narrow_in-requires-clause-on : goal.narrow_in-requires-clause-on
narrow_in-requires-clause-on c =
    on-row (asked c.args.block.now c.args.table.now c.ranges.row (search rules)) c.draw.ensures c.row_place-i.ensures.0

pub narrow_in-requires-else-most-le-FEW-clause-on : goal.narrow_in-requires-else-most-le-FEW-clause-on
narrow_in-requires-else-most-le-FEW-clause-on c =
    on-row (asked c.args.block.now c.args.table.now c.ranges.row (search rules)) c.draw.ensures c.row_place-i.ensures.0

pub returns-then-most-le-FEW : goal.returns-then-most-le-FEW
returns-then-most-le-FEW c =
    let a = asked c.args.block.now c.args.table.now c.ranges.row (search rules) in
    let row_is = c.row_place-i.ensures.1 ∙ cast-nat c.args.row c.ranges.row.sfits a.number.count in
    answered-by a row_is c.narrow_in.ensures.found c.narrow_in.ensures.words

pub returns-else-most-le-FEW : goal.returns-else-most-le-FEW
returns-else-most-le-FEW c =
    let a = asked c.args.block.now c.args.table.now c.ranges.row (search rules) in
    let row_is = c.row_place-i.ensures.1 ∙ cast-nat c.args.row c.ranges.row.sfits a.number.count in
    answered-by a row_is c.narrow_in-else-most-le-FEW.ensures.found c.narrow_in-else-most-le-FEW.ensures.words
