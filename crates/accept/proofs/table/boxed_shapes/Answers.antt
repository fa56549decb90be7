-- `accept::table::boxed_shapes` meets its contract: the flag of a box is set a turn. Assumes nothing.
use native.Mathlib.Omega.{arith}
use Rattle.sheet.proofs.Accepted.{counted}
use Rattle.integers.proofs.Ranges.{nat-from}
use Rattle.accept.proofs.Marks.{box-shape, marks-none, marks-next}
use Rattle.accept.proofs.table.boxed_shapes.Goals as goal

pub loop-b-init : goal.loop-b-init
loop-b-init c = marks-none _

pub shape_number-requires : goal.shape_number-requires
shape_number-requires c = let p = c.box_place.ensures.0 in (p, counted 1 32 (omega arith) (box-shape _ c.requires.1 p.below))

pub bounds-flags-shape_number : goal.bounds-flags-shape_number
bounds-flags-shape_number c = omega (arith, c.shape_number.ensures, nat-from _ (box-shape _ c.requires.1 c.box_place.ensures.0.below))

pub loop-b-preserved : goal.loop-b-preserved
loop-b-preserved c =
    let p = c.box_place.ensures in
    marks-next p.1 c.shape_number.ensures (box-shape _ c.requires.1 p.0.below) c.loop-b.invariant
