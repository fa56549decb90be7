-- `grid::lines_of` meets its contract: n is the product of the sizes before d. Assumes nothing.
use mathlib.Core.Path.{◌≡◌, sym, ap, ◌∙◌}
use Prim.Native.Nat.{ℕ, ◌+◌, ◌*◌}
use native.Mathlib.Omega.{arith}
use Rattle.grid.specs.Grid.{at, lines}
use Rattle.grid.proofs.Lines.{lines-one, lines_more}
use Rattle.grid.proofs.Bricks.{lines-few}
use Rattle.grid.proofs.lines_of.Goals as goal
use Rattle.grid.proofs.lines_of.Goals.{In-loop-d}

next : (c : In-loop-d) → c.loop-d.n * at c.args.brick.size c.loop-d.d ≡ lines (c.loop-d.d + 1) c.args.brick.size
next c =
    let size = c.args.brick.size in
    let l = c.loop-d in
    ap (λ (n : ℕ). n * at size l.d) l.invariant ∙ sym (lines_more size l.auto.d)

pub loop-d-init : goal.loop-d-init
loop-d-init c = sym (lines-one _)

pub overflow_mul-n : goal.overflow_mul-n
overflow_mul-n c = omega (arith, next (goal.at.overflow_mul-n c).In-loop-d, lines-few c.requires {d = c.loop-d.d + 1} (omega arith))

pub loop-d-preserved : goal.loop-d-preserved
loop-d-preserved c = next (goal.at.loop-d-preserved c).In-loop-d
