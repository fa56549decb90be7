-- `region::cut_box` meets its contract: the ranges cut by the rooms are the cut box. Assumes nothing.
use Rattle.region.proofs.Contained.{cut-is}
use Rattle.region.proofs.cut_box.Goals as goal

pub returns : goal.returns
returns c =
    let p = c.requires in
    rw c.area_at.ensures
    (cut-is c.args.block.now p.accepted.head p.table p.row c.range_ends-ends.ensures c.cut_by_rooms.ensures)
