-- `fill::cells::brick_of` meets its contract: the places below d are the box's. Assumes nothing.
use mathlib.Core.Path.{ap, ◌∙◌}
use Prim.Native.Nat.{ℕ, ◌≤◌, ◌<◌}
use native.Mathlib.Omega.{arith}
use borrow.Author.Rules.{rules}
use lib.IntN.{pos}
use lib.ListN.{length-set}
use Rattle.integers.proofs.Machine.{cast_ok}
use Rattle.integers.proofs.Ints.{ints}
use Rattle.integers.proofs.Ranges.{pos-nat}
use Rattle.sheet.specs.Layout.{dims}
use Rattle.sheet.specs.Accepted.{Count}
use Rattle.words.proofs.Reading.{cast-nat}
use Rattle.fill.specs.Room.{IsPlace, IsSize}
use Rattle.fill.proofs.Arrays.{one_more}
use Rattle.fill.proofs.Bricks.{size-near, size-from}
use Rattle.fill.proofs.cells.brick_of.Goals as goal

few : (c : goal.After-dims_of-d-end) → c.dims_of-d-end.result ≤ 4
few c = let k = c.requires.of.counting.room.accepted.head.few_dims in omega (arith, c.dims_of-d-end.ensures)

-- the dimension at hand is one of the sheet's
is-dim : (c : goal.In-loop-d) → c.loop-d.d < dims c.args.block.now
is-dim c = omega (arith, c.dims_of-d-end.ensures)

size-count : (c : goal.After-size_of) → Count c.size_of.result
size-count c =
    let l = is-dim c.before.before in
    let e = c.size_of.ensures in
    let a = size-from c.requires l in
    let b = size-near c.requires l in
    record { from = omega ints; upto = omega ints }

pub dims_of-d-end-requires : goal.dims_of-d-end-requires
dims_of-d-end-requires c = c.requires.of.counting.room.accepted.head

pub loop-d-init : goal.loop-d-init
loop-d-init c = (search rules, search rules, λ e h. absurd (omega arith), λ e h. absurd (omega arith))

pub place_of-requires : goal.place_of-requires
place_of-requires c = (c.requires, is-dim c)

pub offset_bounds-from-d : goal.offset_bounds-from-d
offset_bounds-from-d c = omega (arith, few c.before.before.before, is-dim c.before)

pub bounds-from-d : goal.bounds-from-d
bounds-from-d c = omega (arith, few c.before.before.before, is-dim c.before)

pub size_of-requires : goal.size_of-requires
size_of-requires c = (c.requires.box, is-dim c.before)

pub overflow_cast-size : goal.overflow_cast-size
overflow_cast-size c = cast_ok (size-count c).from (size-count c).upto tt tt

pub offset_bounds-size-d : goal.offset_bounds-size-d
offset_bounds-size-d c = omega (arith, few c.before.before.before.before)

pub bounds-size-d : goal.bounds-size-d
bounds-size-d c = omega (arith, few c.before.before.before.before)

pub loop-d-preserved : goal.loop-d-preserved
loop-d-preserved c =
    let a = c.args in
    let inv = c.loop-d.invariant in
    let below : c.loop-d.d < 4 = omega (arith, few c.before.before.before.before) in
    let read = c.size_of in (
      simp length-set inv.0,
      simp length-set inv.1,
      one_more (IsPlace a.block.now a.table.now a.r.number a.i.number a.b.number) c.loop-d.from (omega (arith, inv.0))
          inv.2 c.place_of.ensures,
      one_more (IsSize a.block.now a.b.number) c.loop-d.size (omega (arith, inv.1))
          inv.3 (ap pos (cast-nat _ read.type_inv (size-count c)) ∙ pos-nat (size-count c).from ∙ read.ensures),
    )

pub returns : goal.returns
returns c =
    let all : (d : ℕ) → d < dims c.args.block.now → d < c.loop-d.d = λ d h. omega (arith, c.dims_of-d-end.ensures) in
    record { from = λ d h. c.loop-d.invariant.2 d (all d h); size = λ d h. c.loop-d.invariant.3 d (all d h) }
