-- `bounds::bound` meets its contract: a refusal is handed on, and otherwise the checks leave what `extreme` asks. Assumes nothing.
use mathlib.Core.Path.{◌∙◌}
use mir.Facts.{to_z-of_z}
use borrow.Author.Rules.{rules}
use Rattle.integers.proofs.Machine.{cast_ok}
use Rattle.sheet.proofs.Accepted.{accepted-head, accepted-rows, accepted-block}
use Rattle.sheet.proofs.Answer.{refused}
use Rattle.words.proofs.Reading.{cast-nat}
use Rattle.accept.proofs.Numbers.{row_upto}
use Rattle.bounds.proofs.Calls.{asked, subject-of, answered-by}
use Rattle.bounds.proofs.bound.Goals as goal

pub returns-in_err-check_dim : goal.returns-in_err-check_dim
returns-in_err-check_dim c =
    refused _ _ _ (simp (to_z-of_z c.ranges.row, to_z-of_z c.ranges.shape, to_z-of_z c.ranges.dimension) at c.check_dim.ensures)
    c.in_err-check_dim.was (search rules)

pub overflow_cast-row : goal.overflow_cast-row
overflow_cast-row c =
    let a = asked c.args.block.now c.args.table.now c.ranges.row c.ranges.shape c.ranges.dimension (search rules) in
    let n = a.shape_of.row_in.count in
    cast_ok n.from n.upto tt tt

pub row_place-i-requires : goal.row_place-i-requires
row_place-i-requires c =
    let a = asked c.args.block.now c.args.table.now c.ranges.row c.ranges.shape c.ranges.dimension (search rules) in
    let w = a.shape_of in
    let row_is = cast-nat c.args.row c.ranges.row.sfits w.row_in.count in
    (accepted-head _ _ w.accepted, accepted-rows _ _ w.accepted, rw row_is (row_upto w.row_in))

pub overflow_cast-s : goal.overflow_cast-s
overflow_cast-s c =
    let a = asked c.args.block.now c.args.table.now c.ranges.row c.ranges.shape c.ranges.dimension (search rules) in
    let n = a.shape_of.shape_in in
    cast_ok n.from n.upto tt tt

pub overflow_cast-d : goal.overflow_cast-d
overflow_cast-d c =
    let a = asked c.args.block.now c.args.table.now c.ranges.row c.ranges.shape c.ranges.dimension (search rules) in
    cast_ok a.dim_in.from a.dim_in.upto tt tt

pub draw-requires : goal.draw-requires
draw-requires c =
    let a = asked c.args.block.now c.args.table.now c.ranges.row c.ranges.shape c.ranges.dimension (search rules) in
    accepted-block _ _ a.shape_of.accepted

pub extreme-requires-clause-of : goal.extreme-requires-clause-of
extreme-requires-clause-of c =
    let a = asked c.args.block.now c.args.table.now c.ranges.row c.ranges.shape c.ranges.dimension (search rules) in
    let shape_is = cast-nat c.args.shape c.ranges.shape.sfits a.shape_of.shape_in in
    let dim_is = cast-nat c.args.dimension c.ranges.dimension.sfits a.dim_in in
    (subject-of a c.draw.ensures c.row_place-i.ensures.0 shape_is, rw dim_is a.dim_below)

pub extreme-requires-else-most-le-FEW-clause-of : goal.extreme-requires-else-most-le-FEW-clause-of
extreme-requires-else-most-le-FEW-clause-of c =
    let a = asked c.args.block.now c.args.table.now c.ranges.row c.ranges.shape c.ranges.dimension (search rules) in
    let shape_is = cast-nat c.args.shape c.ranges.shape.sfits a.shape_of.shape_in in
    let dim_is = cast-nat c.args.dimension c.ranges.dimension.sfits a.dim_in in
    (subject-of a c.draw.ensures c.row_place-i.ensures.0 shape_is, rw dim_is a.dim_below)

pub returns-then-most-le-FEW : goal.returns-then-most-le-FEW
returns-then-most-le-FEW c =
    let a = asked c.args.block.now c.args.table.now c.ranges.row c.ranges.shape c.ranges.dimension (search rules) in
    let row_is = cast-nat c.args.row c.ranges.row.sfits a.shape_of.row_in.count in
    let shape_is = cast-nat c.args.shape c.ranges.shape.sfits a.shape_of.shape_in in
    let dim_is = cast-nat c.args.dimension c.ranges.dimension.sfits a.dim_in in
    answered-by a c.args.flip (c.row_place-i.ensures.1 ∙ row_is) shape_is dim_is c.extreme.ensures

pub returns-else-most-le-FEW : goal.returns-else-most-le-FEW
returns-else-most-le-FEW c =
    let a = asked c.args.block.now c.args.table.now c.ranges.row c.ranges.shape c.ranges.dimension (search rules) in
    let row_is = cast-nat c.args.row c.ranges.row.sfits a.shape_of.row_in.count in
    let shape_is = cast-nat c.args.shape c.ranges.shape.sfits a.shape_of.shape_in in
    let dim_is = cast-nat c.args.dimension c.ranges.dimension.sfits a.dim_in in
    answered-by a c.args.flip (c.row_place-i.ensures.1 ∙ row_is) shape_is dim_is c.extreme-else-most-le-FEW.ensures
