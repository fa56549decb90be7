-- `relate::extent::of_row` meets its contract: the extent is that of the row's boxes before b. Assumes nothing.
use mathlib.Core.Path.{◌≡◌, ap, ◌∙◌}
use Prim.Native.Nat.{◌<◌}
use native.Mathlib.Omega.{arith}
use Rattle.integers.proofs.Machine.{num, diff-fits}
use Rattle.sheet.specs.Layout.{boxes}
use Rattle.relate.proofs.Extents.{start_to, end_to, start_none, end_none, start-more, end_more, start-all, end-all}
use Rattle.relate.proofs.extent.of_row.Goals as goal

pub boxes_of-b-end-requires : goal.boxes_of-b-end-requires
boxes_of-b-end-requires c = c.requires.accepted.head

pub overflow_sub-x : goal.overflow_sub-x
overflow_sub-x c = diff-fits (num 0) (num 2000000) tt

pub loop-b-init : goal.loop-b-init
loop-b-init c = let i = c.args.i in (start_none _ _ i _, end_none _ _ i _)

below : (c : goal.In-loop-b) → c.loop-b.b < boxes c.args.block.now
below c = omega (arith, c.boxes_of-b-end.ensures, c.loop-b-test.true)

pub box_place-requires : goal.box_place-requires
box_place-requires c = (c.requires.accepted.head, below c)

pub with_box-x-requires : goal.with_box-x-requires
with_box-x-requires c = (c.requires, c.box_place.ensures.0)

pub loop-b-preserved : goal.loop-b-preserved
loop-b-preserved c =
    let i = c.before.before in
    let x = i.loop-b.invariant in
    let e = rw c.box_place.ensures.1 at c.with_box-x.ensures in
    (start-more _ _ _ _ i.requires (below i) x.0 e.0, end_more _ _ _ _ i.requires (below i) x.1 e.1)

pub returns : goal.returns
returns c =
    let q : c.loop-b.b ≡ boxes c.args.block.now = omega (arith, c.boxes_of-b-end.ensures, c.loop-b.auto.b-end, c.loop-b-test.false) in
    let x = c.loop-b.invariant in
    let i = c.args.i in
    (x.0 ∙ ap (start_to _ _ i _) q ∙ start-all _ _ i _ c.requires, x.1 ∙ ap (end_to _ _ i _) q ∙ end-all _ _ i _ c.requires)
