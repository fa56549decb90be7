-- `outline::solid::put_hulls` meets its contract: the hulls of the shapes below s that have a box are put. Assumes nothing.
use mathlib.Core.Path.{sym, subst}
use Prim.Native.Nat.{◌+◌}
use native.Mathlib.Omega.{arith}
use borrow.Author.Count.{below_more}
use Rattle.sheet.specs.Accepted.{Boxed}
use Rattle.outline.specs.Solids.{Hull}
use Rattle.outline.proofs.Runs.{same_then}
use Rattle.outline.proofs.Chains.{chained-kept, boxed-first, first-none}
use Rattle.outline.proofs.Solids.{shape-few, boxes-kept, hull-kept}
use Rattle.outline.proofs.solid.put_hulls.Invariants.{Put}
use Rattle.outline.proofs.solid.put_hulls.Goals as goal
use Rattle.outline.proofs.solid.put_hulls.Goals.{then-is_some, else-is_some}

pub put_hull-requires : goal.put_hull-requires
put_hull-requires c =
    let p = c.requires in
    let same = c.loop-s.invariant.0 in record {
      accepted = p.0;
      chained = chained-kept p.0.head (omega arith) same p.1;
      boxes_of = boxes-kept p.0.head same (omega arith) p.2;
      shape = boxed-first c.first_of.result c.first_of.ensures (sym c.if-is_some.ensures);
    }

pub loop-s-preserved : goal.loop-s-preserved
loop-s-preserved c =
    let s = c.loop-s.s in
    let i = c.loop-s.invariant in
    let head = c.requires.0.head in
    let block = c.args.block.now in
    elim c.if-is_some.branch [
      | then-is_some a ↦ subst (Put block c.args.outline.now (s + 1)) (sym a.outline-is) (
        same_then i.0 a.put_hull.ensures.0 (omega arith),
        below_more (λ t. Boxed block t → Hull block a.put_hull.new.outline t) s
            (λ t m b. hull-kept head a.put_hull.ensures.0 t (omega arith) (i.1 t m b)) (λ b. a.put_hull.ensures.1),
      )
      | else-is_some a ↦ subst (Put block c.args.outline.now (s + 1)) (sym a.outline-is) (
        i.0,
        below_more (λ t. Boxed block t → Hull block c.loop-s.outline t) s i.1
            (λ b. absurd (first-none c.first_of.result c.first_of.ensures (sym a.if-is_some.ensures) b)),
      )
    ]

pub returns : goal.returns
returns c = (c.loop-s.invariant.0, λ t b. c.loop-s.invariant.1 t (omega (arith, shape-few c.requires.0 b)) b)
