-- `jumped` lowers the jump point, word by word, to one past the last point of a region.
-- Assumes nothing.
use mathlib.Core.Path.{◌≡◌, refl, sym, ap₂, ◌∙◌}
use Prim.Native.Nat.{◌≤◌, ◌<◌}
use native.Mathlib.Omega.{arith}
use borrow.Author.Rules.{rules}
use lib.ListN.{length}
use mir.Syntax.{w64}
use mir.Val.{to_z, of_z}
use mir.Facts.{to_z-of_z}
use Rattle.integers.specs.Words.{word}
use Rattle.integers.proofs.Machine.{bnd, num, ◌+ʷ◌, exact}
use Rattle.points.specs.Area.{coordinates, min_z}
use Rattle.points.proofs.Sums.{min_is}
use Rattle.sweep.specs.Point.{next, nexts}
use Rattle.sweep.specs.Moves.{jumped_past}
use Rattle.sweep.proofs.Points.{near_fits, made_none, made_more, made_word, made_all}
use Rattle.sweep.proofs.Points.{length-nexts, word-nexts, length-lessers, word-lessers}
use Rattle.sweep.proofs.Sweep.jumped.Goals as goal

pub loop-e-init : goal.loop-e-init
loop-e-init c =
    let j : length c.args.self.jump ≡ coordinates = search rules in
    let l : length c.args.last ≡ coordinates = search rules in
    let m = length-lessers c.args.self.jump (nexts c.args.last) in
    let n = length-nexts c.args.last in
    (refl, refl, made_none (omega arith))

pub overflow_add-last : goal.overflow_add-last
overflow_add-last c = near_fits (c.requires.near c.loop-e.e) _ tt

pub loop-e-preserved : goal.loop-e-preserved
loop-e-preserved c =
    let jump = c.args.self.jump in
    let last = c.args.last in
    let e = c.loop-e.e in
    let made = c.loop-e.invariant.2 in
    let h : e < length jump = search rules in
    let g : e < length last = search rules in
    let past = exact (bnd (c.requires.near e) +ʷ num 1) tt in
    let r : to_z w64 (of_z w64 c.min.result) ≡ min_z (word c.loop-e.self.jump e) (next (word last e)) = grind (arith, to_z-of_z, min_is, past) in (
      c.loop-e.invariant.0,
      c.loop-e.invariant.1,
      made_more made h
          (r ∙ ap₂ min_z (made_word made h) (sym (word-nexts last e g))
          ∙ sym (word-lessers jump (nexts last) e h (omega (arith, length-nexts last, g)))),
    )

pub returns : goal.returns
unfolding jumped_past
returns c =
    let l : length c.args.self.jump ≡ coordinates = search rules in
    let h : length c.args.self.jump ≤ c.loop-e.e = omega arith in
    rw (c.loop-e.invariant.0, c.loop-e.invariant.1, made_all c.loop-e.invariant.2 h)
