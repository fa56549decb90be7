-- `rooms::cut_by_rooms` meets its contract: so far the area is cut by each rule passed. Assumes nothing.
use mathlib.Core.Path.{◌≡◌}
use native.Mathlib.Omega.{arith}
use Rattle.sheet.specs.Layout.{rules}
use Rattle.sheet.specs.Allowed.{rooms_hold}
use Rattle.region.specs.Rooms.{shape_contained, room_holds}
use Rattle.points.proofs.Cut.{cuts-zero, cuts-more}
use Rattle.region.proofs.rooms.cut_by_rooms.Goals as goal

pub loop-r-init : goal.loop-r-init
loop-r-init c = cuts-zero _

pub loop-r-preserved : goal.loop-r-preserved
loop-r-preserved c = cuts-more _ c.loop-r.invariant c.cut_by_rule.ensures

pub returns : goal.returns
unfolding rooms_hold room_holds shape_contained
returns c = let all : c.loop-r.r ≡ rules c.args.block.now = omega (arith, c.rules_of-r-end.ensures) in rw all at c.loop-r.invariant
