-- `relate::extent::with_box` meets its contract: a box that is not the row's changes nothing. Assumes nothing.
use mathlib.Core.Path.{◌≡◌, sym, ap, ◌∙◌, subst}
use Rattle.integers.specs.Integer.{nat}
use Rattle.integers.specs.Below.{UpTo}
use Rattle.points.specs.Area.{min_z, max_z}
use Rattle.sheet.specs.Layout.{shape_of, has_shape, of_row}
use Rattle.sheet.proofs.Accepted.{set-count}
use Rattle.relate.proofs.extent.with_box.Lts as lts
use Rattle.relate.proofs.extent.with_box.Reads as reads
use Rattle.relate.proofs.extent.with_box.Tie as tie
use Rattle.relate.proofs.extent.with_box.Goals as goal

abbrev After-has_shape : Type 0
After-has_shape = lts.After-has_shape tie.the-claims reads.Pre reads.Post

owns : (c : After-has_shape) → let a = c.args in
    c.has_shape.result ≡ of_row a.block.now a.table.now a.i.number a.b.number
unfolding of_row
owns c = c.has_shape.ensures ∙ ap (has_shape _ _ _) c.shape_number.ensures

pub shape_number-requires : goal.shape_number-requires
shape_number-requires c = (c.requires.1, c.requires.0.accepted.shapes _ c.requires.1.below)

pub has_shape-requires : goal.has_shape-requires
has_shape-requires c =
    let w = c.requires.0 in
    let b = c.requires.1.below in
    let u : UpTo 32 (nat (shape_of _ _)) = record { from = w.accepted.shapes_from _ b; upto = w.accepted.shapes_upto _ b } in
    (w.row, set-count w.table w.row.from w.row.upto, subst (UpTo 32) (sym c.shape_number.ensures) u)

pub returns-then-not-has_shape : goal.returns-then-not-has_shape
returns-then-not-has_shape c = let e = sym (owns c.before) ∙ c.if-not-has_shape.true in (rw e, rw e)

pub of_box-requires : goal.of_box-requires
of_box-requires c = c.requires

pub around-requires : goal.around-requires
around-requires c = tt

pub returns : goal.returns
returns c =
    let a = c.args in
    let e = sym (owns c.before.before.before) ∙ c.if-not-has_shape.false in (
      rw e (c.around.ensures.0 ∙ ap (min_z a.x.start) c.of_box.ensures.0),
      rw e (c.around.ensures.1 ∙ ap (max_z a.x.end) c.of_box.ensures.1),
    )
