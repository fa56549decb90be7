-- `rooms::cut_by_rooms` meets its contract: so far the area is cut by each rule passed. Assumes nothing.
use Rattle.integers.specs.Below.{all_below}
use Rattle.sheet.specs.Layout.{axes}
use Rattle.points.specs.Area.{Cuts, area_of}
use Rattle.region.specs.Rooms.{room_holds}
use Rattle.region.proofs.rooms.cut_by_rooms.Given as goal

abbrev pub invariant-loop-r : goal.invariant-loop-r
invariant-loop-r l =
    Cuts (axes l.block) (area_of l.initial.ends) (area_of l.ends) (λ p. all_below l.r (λ m. room_holds l.block l.i l.s m p))
