-- `grid::count` meets its contract: c is how many of the cells so far are marked. Assumes nothing.
use mathlib.Core.Path.{◌≡◌, sym, ap, ◌∙◌}
use mathlib.Core.Bool.{false}
use Prim.Native.Nat.{◌<◌}
use native.Mathlib.Omega.{arith}
use lib.Seq.{get_or-take, length-take-le}
use Rattle.integers.proofs.Digits.{sum-zero}
use Rattle.grid.proofs.Marks.{marked, count_yes, count_no}
use Rattle.grid.proofs.count.Goals as goal
use Rattle.grid.proofs.count.Goals.{then-mark, else-mark}

pub loop-mark-init : goal.loop-mark-init
loop-mark-init c = (omega arith, sym (sum-zero _))

pub loop-mark-preserved : goal.loop-mark-preserved
loop-mark-preserved c =
    let marks = c.args.marks.now in
    let m = c.loop-mark.mark-index in
    let is = c.loop-mark.invariant.1 in
    let h : m < c.args.n = omega (arith, length-take-le c.args.n marks (omega arith)) in
    let same = sym (get_or-take c.args.n marks m false h) in
    elim c.if-mark.branch [
      | then-mark w ↦ (omega arith, w.c-is ∙ count_yes marks m is (same ∙ w.if-mark.true))
      | else-mark w ↦ (omega arith, w.c-is ∙ count_no marks m is (same ∙ w.if-mark.false))
    ]

pub returns : goal.returns
returns c =
    let a = c.args in
    let q : c.loop-mark.mark-index ≡ a.n = omega (arith, length-take-le a.n a.marks.now (omega arith)) in
    c.loop-mark.invariant.1 ∙ ap (marked a.marks.now) q
