-- `fill::cells::mark_row` meets its contract: the cells of the row's boxes before the next one are marked. Assumes nothing.
use mathlib.Core.Path.{◌≡◌, refl, sym, ◌∙◌}
use mathlib.Core.Bool.{true}
use mathlib.Core.List.{List}
use Prim.Native.Nat.{ℕ, ◌≤◌, ◌<◌}
use native.Mathlib.Omega.{arith}
use lib.IntN.{ℤ}
use Rattle.std.specs.Prelude.{Option, Some, None}
use Rattle.sheet.specs.Layout.{boxes, is_of, of_row}
use Rattle.outline.proofs.Chains.{upto, Next, walk}
use Rattle.fill.specs.Room.{NamedBox}
use Rattle.fill.proofs.Bricks.{brick-lies, brick-adds}
use Rattle.fill.proofs.Covers.{own-box, boxes-first, boxes-next, boxes-all}
use Rattle.fill.proofs.cells.mark_row.Goals as goal

-- the next box is one, or past all
few : (block : List ℤ) (s : ℕ) (x : Option ℕ) → Next block s x → upto block x ≤ boxes block
few block s None n = omega arith
few block s (Some b) n = omega (arith, n.0)

pub dims_of-k-requires : goal.dims_of-k-requires
dims_of-k-requires c = c.requires.0.counting.room.accepted.head

pub lowest_shape-s-requires : goal.lowest_shape-s-requires
lowest_shape-s-requires c = let w = c.requires.0 in (w.counting.table, w.row)

pub first_of-next-requires : goal.first_of-next-requires
first_of-next-requires c = (c.requires.1.chained, omega (arith, c.lowest_shape-s.ensures.upto))

pub loop-next-init : goal.loop-next-init
loop-next-init c =
    let x = c.first_of-next.result in
    let w = walk x (omega arith) c.first_of-next.ensures in
    let n = few _ _ x w.next in
    (w.next, boxes-first _ _ _ _ (λ b l. sym (own-box c.requires.0 c.lowest_shape-s.ensures (omega (arith, n, l))) ∙ w.skips b (omega arith) l))

-- the box at hand is one of the row's
module _ (c : goal.In-Some) where
  at-box : (c.in-Some.b < boxes c.args.block.now) × (is_of c.args.block.now c.in-Some.b c.lowest_shape-s.result ≡ true)
  at-box = rw c.in-Some.is at c.loop-next.invariant.0

  is-own : of_row c.args.block.now c.args.table.now c.args.i.number c.in-Some.b ≡ true
  is-own = sym (own-box c.requires.0 c.lowest_shape-s.ensures at-box.0) ∙ at-box.1

pub box_place-requires : goal.box_place-requires
box_place-requires c = (c.requires.0.counting.room.accepted.head, (at-box c).0)

named-box : (c : goal.After-box_place) → NamedBox c.args.block.now c.args.table.now c.args.r c.args.i c.box_place.result
named-box c =
    let p = c.box_place.ensures in
    record { of = c.requires.0; box = p.0; is = rw p.1 (is-own c.before) }

pub brick_of-brick-requires : goal.brick_of-brick-requires
brick_of-brick-requires c = named-box c

pub mark_brick-requires : goal.mark_brick-requires
mark_brick-requires c = rw c.dims_of-k.ensures (brick-lies (named-box c.before.before) _ _ c.requires.2 c.brick_of-brick.ensures)

pub after-next-requires : goal.after-next-requires
after-next-requires c =
    let e = at-box c.before.before.before.before in
    record { head = c.requires.0.counting.room.accepted.head; chained = c.requires.1.chained; below = e.0; is = e.1 }

pub loop-next-preserved : goal.loop-next-preserved
loop-next-preserved c =
    let p = c.before.before.before.before in
    let e = at-box p.before in
    let x = c.after-next.result in
    let w = walk x (omega (arith, e.0)) c.after-next.ensures in
    let n = few _ _ x w.next in
    let marked = rw c.in-Some.is at c.loop-next.invariant.1 in (
      w.next,
      boxes-next _ _ _ _ (is-own p.before) (omega (arith, w.from))
          (λ b m l. sym (own-box c.requires.0 c.lowest_shape-s.ensures (omega (arith, n, l))) ∙ w.skips b (omega arith) l) marked
          (brick-adds (named-box p) _ _ c.requires.2 c.brick_of-brick.ensures c.dims_of-k.ensures c.box_place.ensures.1 c.mark_brick.ensures),
    )

pub returns : goal.returns
returns c = boxes-all _ _ _ _ refl (rw c.in_default.is at c.loop-next.invariant.1)
