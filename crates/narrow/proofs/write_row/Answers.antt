-- `write_row` meets its contract: so far the ranges of the dimensions passed are written. Assumes nothing.
use mathlib.Core.Path.{◌≡◌, ap₂, ◌∙◌}
use mathlib.Core.Bool.{true, false}
use mathlib.Core.List.{◌∷◌}
use Prim.Native.Nat.{ℕ, ◌+◌, ◌*◌}
use native.Mathlib.Omega.{arith}
use lib.IntN.{pos}
use mir.Syntax.{w64}
use mir.Val.{SFits}
use mir.Facts.{to_z-of_z, to_z_pos}
use borrow.Author.Rules.{rules}
use Rattle.integers.specs.Words.{pairs_below, replaced}
use Rattle.integers.proofs.Machine.{fits_word}
use Rattle.integers.proofs.Lists.{length-pairs_below}
use Rattle.sheet.specs.Layout.{axes}
use Rattle.words.proofs.Ends.{row_ends}
use Rattle.points.specs.Ends.{end_at}
use Rattle.narrow.proofs.Writes.{written_none, written-pair, written-front}
use Rattle.narrow.proofs.write_row.Goals as goal

pub loop-d-init : goal.loop-d-init
unfolding pairs_below
loop-d-init c = written_none c.args.table.now (c.args.i.at + 1)

pub overflow_add-at : goal.overflow_add-at
overflow_add-at c = omega (arith, row_ends c.requires.0)

pub overflow_add-at-in-loop-d : goal.overflow_add-at-in-loop-d
overflow_add-at-in-loop-d c = omega (arith, row_ends c.requires.0, c.axes_of-k.ensures, c.loop-d-test.true)

pub put-moved-requires : goal.put-moved-requires
put-moved-requires c = omega (arith, row_ends c.requires.0, c.axes_of-k.ensures, c.loop-d.auto.table, c.loop-d-test.true)

pub overflow_add-at-in-loop-d-2 : goal.overflow_add-at-in-loop-d-2
overflow_add-at-in-loop-d-2 c = omega (arith, row_ends c.requires.0, c.axes_of-k.ensures, c.loop-d-test.true)

pub overflow_add-at-in-loop-d-3 : goal.overflow_add-at-in-loop-d-3
overflow_add-at-in-loop-d-3 c = omega (arith, row_ends c.requires.0, c.axes_of-k.ensures, c.loop-d-test.true)

pub put-moved-requires-in-loop-d : goal.put-moved-requires-in-loop-d
put-moved-requires-in-loop-d c =
    omega (arith, row_ends c.requires.0, c.axes_of-k.ensures, c.loop-d.auto.table, c.put-moved.auto.table, c.loop-d-test.true)

pub loop-d-preserved : goal.loop-d-preserved
loop-d-preserved c =
    let d = c.loop-d.d in
    let p = c.args.i.at + 1 + 2 * d in
    let q = c.args.i.at + 2 + 2 * d in
    let low : SFits w64 (end_at false d c.args.ends.now) = search rules in
    let high : SFits w64 (end_at true d c.args.ends.now) = search rules in
    written-pair d (λ m. end_at false m c.args.ends.now) (λ m. end_at true m c.args.ends.now) c.loop-d.invariant p q (omega arith) (omega arith)
    (omega (arith, row_ends c.requires.0, c.axes_of-k.ensures, c.loop-d-test.true))
    (rw (to_z-of_z low) at c.put-moved.ensures.0) (rw (to_z-of_z low) at c.put-moved.ensures.1)
    (rw (to_z-of_z high) at c.put-moved-in-loop-d.ensures.0) (rw (to_z-of_z high) at c.put-moved-in-loop-d.ensures.1)

pub put-requires : goal.put-requires
put-requires c = omega (arith, row_ends c.requires.0, c.loop-d.auto.table)

pub returns : goal.returns
returns c =
    let a = c.args in
    let set_word : SFits w64 (pos a.shapes) = fits_word (pos a.shapes) (omega (arith, c.ranges.shapes.fits)) in
    let e = to_z_pos w64 {n = a.shapes} (omega (arith, c.ranges.shapes.fits)) in
    let q : c.loop-d.d ≡ axes a.block.now = omega (arith, c.axes_of-k.ensures, c.loop-d.auto.d-end, c.loop-d-test.false) in
    let long = length-pairs_below c.loop-d.d (λ m. end_at false m a.ends.now) (λ m. end_at true m a.ends.now) in
    let w = written-front c.loop-d.invariant (pos a.shapes) (omega (arith, long, row_ends c.requires.0, q))
    (rw e at c.put.ensures.0) (rw e at c.put.ensures.1) in (
      w.is ∙ ap₂ (λ (p m : ℕ). replaced a.table.now p (pos a.shapes ∷ pairs_below m (λ d. end_at false d a.ends.now) (λ d. end_at true d a.ends.now)))
          c.requires.0.stands q,
      w.tells,
    )
