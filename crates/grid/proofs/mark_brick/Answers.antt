-- `grid::mark_brick` meets its contract: the brick's lines before j are marked. Assumes nothing.
use mathlib.Core.Path.{◌≡◌, ap, ◌∙◌, subst}
use mathlib.Core.Bool.{Bool, false, ◌||◌}
use Prim.Native.Nat.{ℕ}
use native.Mathlib.Omega.{arith}
use lib.ListN.{get_or}
use Rattle.integers.specs.Below.{any_below}
use Rattle.grid.specs.Grid.{at, in_line, lines}
use Rattle.grid.proofs.Marks.{Added, no_line, line-more}
use Rattle.grid.proofs.Bricks.{on_line, line-fits, brick-lines}
use Rattle.grid.proofs.mark_brick.Goals as goal

pub loop-j-init : goal.loop-j-init
loop-j-init c = let a = c.args in no_line a.marks.now (on_line a.k a.widths a.brick)

pub mark_line-requires : goal.mark_line-requires
mark_line-requires c = omega (arith, c.line_start.ensures, line-fits c.requires c.loop-j.j)

pub loop-j-preserved : goal.loop-j-preserved
loop-j-preserved c =
    let a = c.args in
    let l = c.loop-j in
    let new = c.mark_line.new.marks in
    line-more a.marks.now l.marks new (on_line a.k a.widths a.brick) l.j l.invariant
    (subst (λ (start : ℕ). Added l.marks new (in_line start (at a.brick.size 0))) c.line_start.ensures c.mark_line.ensures)

pub returns : goal.returns
returns c =
    let a = c.args in
    let q : c.loop-j.j ≡ lines a.k a.brick.size = omega (arith, c.lines_of-j-end.ensures) in
    λ m h.
    c.loop-j.invariant m
    ∙ ap (λ (b : Bool). get_or a.marks.now m false || b)
    (ap (λ (n : ℕ). any_below n (λ j. on_line a.k a.widths a.brick j m)) q ∙ brick-lines c.requires m h)
