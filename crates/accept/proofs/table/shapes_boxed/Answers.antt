-- `accept::table::shapes_boxed` meets its contract: a shape is tested a turn. Assumes nothing.
use mathlib.Core.Path.{sym, subst}
use mathlib.Core.Logic.{⊎_elim}
use Prim.Native.Nat.{ℕ, ◌^◌, ◌<◌}
use Rattle.std.proofs.Common.{rules}
use Rattle.integers.proofs.Booleans.{implies-out}
use Rattle.integers.proofs.Below.{upto-at, at-upto, below_or}
use Rattle.words.proofs.Shapes.{none_before, none-past}
use Rattle.accept.specs.Parts.{boxed, shape_boxed}
use Rattle.accept.proofs.Turns.{fails_by, passes-by, upto_next, upto_false}
use Rattle.accept.proofs.table.shapes_boxed.Goals as goal

-- the row has no shape before its first
pub loop-s-init : goal.loop-s-init
loop-s-init c =
    let a = c.args in
    at-upto (shape_boxed a.block.now a.table.now a.i.number) (λ m from upto.
    implies-out (boxed a.block.now m) (none_before a.block.now a.table.now a.i.number c.shapes_of-set.ensures m from upto))

-- the row has no shape past s
pub returns-then-is_below : goal.returns-then-is_below
returns-then-is_below c =
    let a = c.args in
    let test = shape_boxed a.block.now a.table.now a.i.number in
    let h = subst (λ (n : ℕ). n < 2 ^ c.loop-s.s) c.shapes_of-set.ensures (c.is_below.ensures.0 c.if-is_below.true) in
    sym (at-upto test (λ m from upto. ⊎_elim
    (λ k. implies-out (boxed a.block.now m) (none-past _ a.table.now a.i.number c.requires.set_count h k))
    (λ k. upto-at test c.loop-s.invariant m from k) (below_or c.loop-s.s m)))

pub returns-then-not-shape_boxed : goal.returns-then-not-shape_boxed
returns-then-not-shape_boxed c =
    let a = c.args in
    sym (upto_false (shape_boxed a.block.now a.table.now a.i.number) (search rules) (fails_by c.shape_boxed.ensures (search rules)))

pub loop-s-preserved : goal.loop-s-preserved
loop-s-preserved c =
    let a = c.args in
    upto_next _ (shape_boxed a.block.now a.table.now a.i.number) c.loop-s.invariant (passes-by c.shape_boxed.ensures (search rules))
