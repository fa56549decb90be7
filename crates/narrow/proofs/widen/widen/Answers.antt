-- `widen::widen` meets its contract: the ends passed have taken in the shape. Assumes nothing.
use mathlib.Core.Path.{◌≡◌, ◌∙◌}
use mathlib.Core.Bool.{Bool, true, false}
use mathlib.Core.List.{[], ◌∷◌}
use Prim.Native.Nat.{◌<◌, ◌-◌}
use native.Mathlib.Omega.{arith}
use borrow.Author.Count.{below_more}
use lib.ListN.{get_or}
use Rattle.sheet.specs.Layout.{axes}
use Rattle.points.specs.Ends.{end_at}
use Rattle.narrow.specs.Ends.{Edge}
use Rattle.narrow.proofs.Taking.{side_more}
use Rattle.narrow.proofs.widen.widen.Goals as goal

pub axes_of-k-requires : goal.axes_of-k-requires
axes_of-k-requires c = c.requires.0.subject.accepted.head

pub loop-flip-init : goal.loop-flip-init
loop-flip-init c =
    record { edges = c.requires.1; sides = λ j h. absurd (omega arith); listed = c.requires.0.listed }

pub loop-d-init : goal.loop-d-init
loop-d-init c =
    let w = c.loop-flip.invariant in
    record { edges = w.edges; sides = w.sides; side = λ d h. absurd (omega arith); listed = w.listed }

pub widen_end-requires : goal.widen_end-requires
widen_end-requires c =
    let w = c.requires.0 in
    let v = c.loop-d.invariant in
    let h : c.loop-d.d < axes c.args.block.now = omega (arith, c.axes_of-k.ensures, c.loop-d-test.true) in (
      rw c.put_area.ensures.1 (record {
        subject = w.subject;
        listed = v.listed;
        next = w.next;
        held = w.held;
        box = w.box;
        filled = w.filled;
        long = c.loop-d.auto.ends ∙ c.loop-flip.auto.ends ∙ w.long;
      }),
      h,
      v.edges _ _ h,
    )

pub loop-d-preserved : goal.loop-d-preserved
loop-d-preserved c =
    let v = c.loop-d.invariant in
    let after = c.widen_end.ensures in
    let h : c.loop-d.d < axes c.args.block.now = omega (arith, c.axes_of-k.ensures, c.loop-d-test.true) in
    record {
      edges = λ f d g. after.0 (c.args.nearby.s - 1) f d g (v.edges f d g);
      sides = λ j l d g. after.0 c.args.nearby.s (get_or (false ∷ true ∷ []) j false) d g (v.sides j l d g);
      side = side_more c.args.block.now c.args.table.now c.args.nearby.i.number c.args.nearby.s c.loop-d.d
          (get_or (false ∷ true ∷ []) c.loop-flip.flip-index false) h v.side after.0 after.1;
      listed = after.2;
    }

pub loop-flip-preserved : goal.loop-flip-preserved
loop-flip-preserved c =
    let v = c.loop-d.invariant in
    let q : c.loop-d.d ≡ axes c.args.block.now = omega (arith, c.axes_of-k.ensures, c.loop-d-test.false) in
    record {
      edges = v.edges;
      sides = below_more _ _ v.sides (rw q at v.side);
      listed = v.listed;
    }

pub returns : goal.returns
returns c flip d h = both flip
  where
    both : (f : Bool) → Edge c.args.block.now c.args.table.now c.args.nearby.i.number f c.args.nearby.s d (end_at f d c.loop-flip.ends)
    both true = c.loop-flip.invariant.sides 1 (omega arith) d h
    both false = c.loop-flip.invariant.sides 0 (omega arith) d h
