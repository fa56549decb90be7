-- `bounds::search` meets its contract: a candidate that nothing forbids is foremost, and a region is jumped over. Assumes nothing.
use mathlib.Core.Path.{◌≡◌, sym}
use borrow.Author.Rules.{rules}
use Rattle.sheet.specs.Layout.{axes}
use Rattle.sweep.specs.Rotation.{rotation}
use Rattle.sweep.specs.Moves.{advance, jumped_past}
use Rattle.points.proofs.Areas.{in_small}
use Rattle.bounds.proofs.Swept.{task-of, Encounter, task-end-near, near-low, near-high, near_last}
use Rattle.bounds.proofs.Swept.{swept-start, swept-near, swept-in, swept-found, swept-on, swept-falls, swept_none}
use Rattle.bounds.proofs.search.Goals as goal

-- ---- before the loop: the two ends of the turned area
pub axes_of-k-requires : goal.axes_of-k-requires
axes_of-k-requires c = c.requires.subject.accepted.head

pub turned_end-first-requires : goal.turned_end-first-requires
turned_end-first-requires c = near-high c.requires.small

pub turned_end-end-requires : goal.turned_end-end-requires
turned_end-end-requires c = near-low c.requires.small

pub new-w-requires : goal.new-w-requires
new-w-requires c = task-end-near (task-of c.requires c.turned_end-first.ensures c.turned_end-end.ensures (search rules) (search rules))

pub loop-w-init : goal.loop-w-init
loop-w-init c =
    let task = task-of c.requires c.turned_end-first.ensures c.turned_end-end.ensures (search rules) (search rules) in
    record {
      task = task;
      swept = swept-start task c.args.table.now c.args.nearby.i.number c.args.nearby.s c.new-w.ensures;
      listed = c.requires.listed;
    }

-- ---- in the loop: the point that the candidate stands for
pub turned_point-p-requires : goal.turned_point-p-requires
turned_point-p-requires c =
    swept-near c.loop-w.invariant.task c.args.table.now c.args.nearby.i.number c.args.nearby.s c.loop-w.invariant.swept c.loop-w-test.true

pub region_at-requires : goal.region_at-requires
region_at-requires c =
    let w = c.requires.subject in
    let h = swept-in c.loop-w.invariant.task c.args.table.now c.args.nearby.i.number c.args.nearby.s c.loop-w.invariant.swept
    c.turned_point-p.ensures c.loop-w-test.true in
    record {
      at_point = record { accepted = w.accepted; table = w.table; outline = w.outline; own = w.shape; near = in_small _ _ c.requires.small h };
      row = w.row;
      inside = c.requires.inside c.turned_point-p.result h;
      listed = c.loop-w.invariant.listed;
    }

pub returns-in_default : goal.returns-in_default
returns-in_default c = (
  swept-found c.loop-w.invariant.task c.args.table.now c.args.nearby.i.number c.args.nearby.s c.loop-w.invariant.swept
      c.turned_point-p.ensures c.loop-w-test.true (sym c.in_default.ensures.0.hit),
  c.in_default.ensures.1,
)

-- ---- a region around the point, all of which is forbidden
pub turned_end-last-requires : goal.turned_end-last-requires
turned_end-last-requires c = near-low c.in-Some.ensures.0.small

pub jumped-w-requires : goal.jumped-w-requires
jumped-w-requires c = near_last c.args.flip c.in-Some.bad c.in-Some.ensures.0.small c.turned_end-last.ensures

pub advanced-w-requires : goal.advanced-w-requires
advanced-w-requires c = task-end-near c.loop-w.invariant.task

-- ---- the sweep after its jump over the region
module _ (c : goal.After-advanced-w) where
  encounter : Encounter c.args.block.now c.args.table.now c.args.nearby.i.number c.args.nearby.s c.args.d c.args.flip
      c.turned_end-first.result c.turned_end-end.result c.loop-w.w c.turned_point-p.result c.in-Some.bad c.turned_end-last.result
  encounter = record {
    swept = c.loop-w.invariant.swept;
    live = c.loop-w-test.true;
    point = c.turned_point-p.ensures;
    around = c.in-Some.ensures.0.around;
    only = c.in-Some.ensures.0.only;
    ends = c.turned_end-last.ensures;
    long = search rules;
  }

  moves : c.advanced-w.result ≡ advance (rotation (axes c.args.block.now) c.args.d) c.turned_end-first.result c.turned_end-end.result
      (axes c.args.block.now) (jumped_past c.loop-w.w c.turned_end-last.result)
  moves = rw (c.jumped-w.ensures, c.axes_of-k.ensures) at c.advanced-w.ensures

pub loop-w-smaller : goal.loop-w-smaller
loop-w-smaller c =
    swept-falls c.loop-w.invariant.task c.args.table.now c.args.nearby.i.number c.args.nearby.s (encounter c) (moves c)

pub loop-w-preserved : goal.loop-w-preserved
loop-w-preserved c = record {
  task = c.loop-w.invariant.task;
  swept = swept-on c.loop-w.invariant.task c.args.table.now c.args.nearby.i.number c.args.nearby.s (encounter c) (moves c);
  listed = c.in-Some.ensures.1;
}

pub returns : goal.returns
returns c = (
  swept_none c.loop-w.invariant.task c.args.table.now c.args.nearby.i.number c.args.nearby.s c.loop-w.invariant.swept c.loop-w-test.false,
  c.loop-w.invariant.listed,
)
