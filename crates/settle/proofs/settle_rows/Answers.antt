-- `settle::settle_rows` meets its contract: the table is on the way, and a row that is not to be narrowed does not move. Assumes nothing.
use mathlib.Core.List.{List}
use mathlib.Core.Path.{◌≡◌, refl}
use mathlib.Core.Bool.{true}
use Prim.Native.Nat.{ℕ, ◌<◌}
use native.Mathlib.Omega.{arith}
use lib.IntN.{ℤ}
use lib.ListN.{replicate, get_or-replicate}
use Rattle.integers.proofs.Booleans.{clash}
use Rattle.integers.proofs.Below.{up_next}
use Rattle.sheet.specs.Layout.{rows_most, rows}
use Rattle.sheet.proofs.Accepted.{rows_same}
use Rattle.settle.specs.Todo.{todo}
use Rattle.settle.proofs.Worked.{worked-start, worked-end}
use Rattle.settle.proofs.Steps.{cleared, turn-of, turn-none, turn-still, still-less, turn-good, turn_moved, moved-less}
use Rattle.settle.proofs.settle_rows.Goals as goal
use Rattle.settle.proofs.settle_rows.Goals.{in-Still, in-Moved}

all_set : (m : ℕ) → m < rows_most → todo (replicate rows_most true) m ≡ true
all_set m h = get_or-replicate rows_most m true _ h

pub loop-i-init : goal.loop-i-init
loop-i-init c = (
  worked-start c.args.block.now c.requires.0.head.some_axes c.args.table.now (replicate rows_most true) (record { table = c.requires.1; as_long = refl })
      (λ m h. all_set m (omega (arith, c.requires.1.whole.few_rows))),
  c.rows_of-n.ensures,
  omega arith,
)

pub row_place-row-requires : goal.row_place-row-requires
row_place-row-requires c =
    let n = rows_same c.args.block.now c.loop-i.table c.args.table.now c.loop-i.auto.table in
    let below = c.in-Some.ensures.0 in
    (c.requires.0.head, c.loop-i.invariant.0.way.good.table.whole, up_next (omega (arith, below, c.loop-i.invariant.1, n)))

pub returns-in-NoPlace : goal.returns-in-NoPlace
returns-in-NoPlace c =
    let place = c.row_place-row.ensures in
    let turn = turn-of c.requires.0 c.requires.1 c.loop-i.invariant.0 c.loop-i.invariant.1 c.in-Some.ensures.0 place.1 c.narrow_row.ensures in
    record { yes = λ e. clash e refl; no = λ e. turn-none turn c.in-NoPlace.is }

pub touched-requires : goal.touched-requires
touched-requires c =
    let place = c.row_place-row.ensures in
    let turn = turn-of c.requires.0 c.requires.1 c.loop-i.invariant.0 c.loop-i.invariant.1 c.in-Some.ensures.0 place.1 c.narrow_row.ensures in
    let good = turn-good turn c.in-Moved.is in
    let as_many = rows_same c.args.block.now c.narrow_row.new.table c.args.table.now good.as_long in
    record {
      on = record {
        accepted = c.requires.0;
        table = good.table;
        outline = c.requires.2;
        row = record {
          head = place.0.head;
          whole = good.table.whole;
          from = place.0.from;
          upto = omega (arith, turn.number, turn.below, as_many);
          stands = place.0.stands;
        };
      };
      count = omega (arith, c.loop-i.invariant.1, as_many);
    }

pub loop-i-smaller : goal.loop-i-smaller
loop-i-smaller c =
    let place = c.row_place-row.ensures in
    let turn = turn-of c.requires.0 c.requires.1 c.loop-i.invariant.0 c.loop-i.invariant.1 c.in-Some.ensures.0 place.1 c.narrow_row.ensures in
    elim c.match-narrow_row.branch [
      | in-Still a ↦ still-less turn a.in-Still.is a.due-is c.in-Some.ensures.1
      | in-Moved a ↦ moved-less turn a.in-Moved.is (cleared c.match-narrow_row.due c.in-Some.i)
    ]

pub loop-i-preserved : goal.loop-i-preserved
loop-i-preserved c =
    let place = c.row_place-row.ensures in
    let below = c.in-Some.ensures.0 in
    let turn = turn-of c.requires.0 c.requires.1 c.loop-i.invariant.0 c.loop-i.invariant.1 below place.1 c.narrow_row.ensures in (
      elim c.match-narrow_row.branch [
        | in-Still a ↦ turn-still turn a.in-Still.is a.due-is
        | in-Moved a ↦ turn_moved turn a.in-Moved.is a.due-is c.loop-i.invariant.1 a.touched.ensures
      ],
      c.loop-i.invariant.1,
      omega (arith, below),
    )

pub returns : goal.returns
returns c = record {
  yes = λ e. worked-end c.args.block.now c.requires.0.head.some_axes c.args.table.now c.loop-i.table c.loop-i.due c.loop-i.invariant.0
      (λ m h. c.in_default.ensures m (omega (arith, h, c.loop-i.invariant.1)));
  no = λ e. clash refl e;
}
