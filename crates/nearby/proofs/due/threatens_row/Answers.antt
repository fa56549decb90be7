-- `nearby::due::threatens_row` meets its contract: so far the shapes passed are forbidden no point of row i's ranges, and none is left where
-- its set is below the next. Assumes nothing.
use borrow.Author.Rules.{rules}
use mathlib.Core.Bool.{true}
use mathlib.Core.Path.{◌≡◌, sym, ◌∙◌, subst}
use mathlib.Core.List.{List}
use mathlib.Core.Logic.{⊎_elim}
use Prim.Native.Nat.{ℕ, ◌^◌, ◌<◌}
use native.Mathlib.Omega.{arith}
use lib.Count.{trailing_le}
use lib.IntN.{ℤ}
use Rattle.integers.proofs.Booleans.{clash}
use Rattle.integers.proofs.Below.{below_or}
use Rattle.sheet.proofs.Accepted.{set-count}
use Rattle.words.specs.Shapes.{LowestShape}
use Rattle.words.proofs.Shapes.{shape-from, shape-upto, none_before, none-past, same_shape}
use Rattle.forbid.proofs.Rows.{set-missed}
use Rattle.nearby.specs.Due.{ShapeHarmless, HarmlessBy}
use Rattle.nearby.proofs.due.threatens_row.Goals as goal

-- row j's lowest shape forbids all that row j does
harmless : {block table : List ℤ} {r j i t : ℕ} → LowestShape block table j t → ((s : ℕ) → ShapeHarmless block table r j t i s)
    → HarmlessBy block table r j i
harmless low f = record { spares = λ s p h k. set-missed _ _ _ _ _ _ _ low.upto low.held p (f s p h k) }

pub threatens_shape-requires : goal.threatens_shape-requires
threatens_shape-requires c =
    let p = c.requires in
    let own = c.lowest_shape-own.ensures in
    record {
      rows_of = p;
      shape = p.table.boxed _ _ p.other.from p.other.upto c.lowest_shape-t.ensures.held;
      number = record { from = shape-from _ _ _ _ own.held; upto = own.upto };
    }

pub returns-then-has_one_shape : goal.returns-then-has_one_shape
returns-then-has_one_shape c e =
    let a = c.args in
    let one : c.has_one_shape.result ≡ true = search rules in
    harmless c.lowest_shape-t.ensures (λ s p h k.
    subst (λ (m : ℕ). ShapeHarmless a.block.now a.table.now a.r.number a.j.number c.lowest_shape-t.result a.i.number m)
    (sym (same_shape _ _ _ _ _ (sym c.has_one_shape.ensures ∙ one) c.lowest_shape-own.ensures.held h))
    (c.threatens_shape.ensures e) p h k)

pub loop-s-init : goal.loop-s-init
loop-s-init c = λ m f u p h k. clash h (none_before _ _ _ c.shapes_of-set.ensures m f u)

pub returns-then-is_below : goal.returns-then-is_below
returns-then-is_below c e =
    let p = c.requires in
    let u = subst (λ (n : ℕ). n < 2 ^ c.loop-s.s) c.shapes_of-set.ensures (c.is_below.ensures.0 c.if-is_below.true) in
    harmless c.lowest_shape-t.ensures (λ s p' h k. ⊎_elim
    (λ n. clash h (none-past _ _ _ (set-count p.table p.row.from p.row.upto) u n))
    (λ n. c.loop-s.invariant s (shape-from _ _ _ s h) n p' h k) (below_or c.loop-s.s s))

pub returns : goal.returns
returns c e =
    let r = c.requires.row in
    harmless c.lowest_shape-t.ensures (λ s p h k. c.loop-s.invariant s (shape-from _ _ _ s h)
    (omega (arith, trailing_le 32 c.shapes_of-set.result, shape-upto c.requires.table r.from r.upto s h)) p h k)
