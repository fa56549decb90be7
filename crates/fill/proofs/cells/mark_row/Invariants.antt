-- `fill::cells::mark_row` meets its contract: the cells of the row's boxes before the next one are marked. Assumes nothing.
use Prim.Native.Nat.{◌-◌}
use Rattle.sheet.specs.Layout.{boxes}
use Rattle.sheet.specs.Fill.{room_cells}
use Rattle.outline.proofs.Chains.{upto, Next}
use Rattle.fill.specs.Room.{Adds}
use Rattle.fill.proofs.Covers.{boxes_to}
use Rattle.fill.proofs.cells.mark_row.Given as goal

abbrev pub invariant-loop-next : goal.invariant-loop-next
invariant-loop-next l =
    Next l.block l.s l.next
    × Adds (room_cells l.block l.r.number) (boxes_to l.block l.table l.r.number l.i.number (upto l.block l.next)) l.initial.marks l.marks

abbrev pub decreases-loop-next : goal.decreases-loop-next
decreases-loop-next l = boxes l.block - upto l.block l.next
