-- `bounds::search` meets its contract. The loop's invariant: the sweep has come there by jumps over forbidden regions. Its measure is the
-- number of points that are left. Assumes nothing.
use Rattle.nearby.specs.Listing.{Listed}
use Rattle.bounds.proofs.Swept.{Swept, points_left, Task}
use Rattle.bounds.proofs.search.Given as goal

abbrev pub invariant-loop-w : goal.invariant-loop-w
invariant-loop-w l = record {
  task : Task l.block l.d l.flip l.fn.area l.first l.end;
  swept : Swept l.block l.table l.nearby.i.number l.nearby.s l.d l.flip l.first l.end l.w;
  listed : Listed l.block l.table l.nearby l.suspects l.known;
}

abbrev pub decreases-loop-w : goal.decreases-loop-w
decreases-loop-w l = points_left l.block l.d l.first l.end l.w
