-- `kept::kept_shapes` meets its contract: so far what is kept is that of the shapes passed. Assumes nothing.
use mathlib.Core.Path.{◌≡◌, ◌∙◌, subst}
use Prim.Native.Nat.{ℕ, ◌+◌, ◌^◌, ◌<◌, ◌-◌}
use native.Mathlib.Numerals.{add-one}
use native.Mathlib.Omega.{arith}
use lib.Count.{count_trailing_zeros, trailing_le}
use Rattle.words.proofs.Shapes.{none_before}
use Rattle.sheet.proofs.Accepted.{set-count}
use Rattle.narrow.proofs.KeptTo.{kept-start, kept-first, kept-rest}
use Rattle.narrow.proofs.kept.kept_shapes.Goals as goal

pub shapes_of-set-requires : goal.shapes_of-set-requires
shapes_of-set-requires c =
    let on = c.requires.on in
    (on.row, set-count on.table on.row.from on.row.upto)

pub loop-s-init : goal.loop-s-init
loop-s-init c =
    let a = c.args in
    kept-first _ _ _ _ (kept-start a.block.now a.table.now a.i.number c.requires.ends_of) (count_trailing_zeros 32 c.shapes_of-set.result)
    (none_before _ _ _ c.shapes_of-set.ensures)

-- no shape is left
pub returns-then-is_below : goal.returns-then-is_below
returns-then-is_below c =
    let a = c.args in
    let h = c.is_below.ensures.0 c.if-is_below.true in
    let q : c.loop-s.s + (32 - c.loop-s.s) ≡ 32 = omega arith in
    rw q at (kept-rest a.block.now a.table.now a.i.number c.loop-s.s c.loop-s.shapes c.loop-s.ends
    (subst (λ (n : ℕ). n < 2 ^ c.loop-s.s) c.shapes_of-set.ensures h) c.loop-s.invariant (32 - c.loop-s.s))

pub with_next-shapes-requires : goal.with_next-shapes-requires
with_next-shapes-requires c =
    let x = c.loop-s.invariant in (
      record { on = c.requires.on; below = c.loop-s-test.true; long = c.loop-s.auto.ends ∙ c.requires.long; ends_of = x.ends_of },
      c.shapes_of-set.ensures,
      x.kept,
    )

pub loop-s-preserved : goal.loop-s-preserved
loop-s-preserved c = rw add-one c.with_next-shapes.ensures

pub returns : goal.returns
returns c =
    let q : c.loop-s.s ≡ 32 = omega (arith, c.loop-s.auto.s-end, trailing_le 32 c.shapes_of-set.result, c.loop-s-test.false) in
    rw q at c.loop-s.invariant
