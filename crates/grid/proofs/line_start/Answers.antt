-- `grid::line_start` meets its contract: start is the line's first cell in the dimensions before d. Assumes nothing.
use Prim.Native.Nat.{◌+◌, ◌*◌, ◌≤◌, ◌<◌}
use native.Mathlib.Omega.{arith}
use Rattle.integers.specs.Below.{product_below}
use Rattle.grid.specs.Grid.{cells_most, at, line_start}
use Rattle.grid.proofs.Lines.{Upto, upto-one, upto-more}
use Rattle.grid.proofs.Bricks.{steps-few, start-below}
use Rattle.grid.proofs.line_start.Goals as goal
use Rattle.grid.proofs.line_start.Goals.{In-loop-d, After-divided-quotient}

-- a turn, with the digit
next : (c : After-divided-quotient)
    → Upto c.args.widths c.args.brick.from c.args.brick.size c.args.j (c.loop-d.d + 1)
    (c.loop-d.start + (at c.args.brick.from c.loop-d.d + c.divided-quotient.result.1) * c.loop-d.step)
    (c.loop-d.step * at c.args.widths c.loop-d.d) c.divided-quotient.result.0
next c =
    let a = c.args in
    upto-more a.widths a.brick.from a.brick.size a.j c.loop-d.auto.d c.loop-d.invariant c.divided-quotient.ensures.0 c.divided-quotient.ensures.1

step-few : (c : In-loop-d) → product_below (c.loop-d.d + 1) (at c.args.widths) ≤ cells_most
step-few c = steps-few c.requires (omega arith)

start-few : (c : In-loop-d) → line_start (c.loop-d.d + 1) c.args.widths c.args.brick.from c.args.brick.size c.args.j < cells_most
start-few c = omega (arith, step-few c, start-below c.requires c.args.j {d = c.loop-d.d + 1} (omega arith))

pub loop-d-init : goal.loop-d-init
loop-d-init c = let a = c.args in upto-one a.widths a.brick.from a.brick.size a.j

pub overflow_mul-start : goal.overflow_mul-start
overflow_mul-start c =
    let at = goal.at.overflow_mul-start c in omega (arith, (next at.After-divided-quotient).start_is, start-few at.In-loop-d)

pub overflow_add-start-in-loop-d : goal.overflow_add-start-in-loop-d
overflow_add-start-in-loop-d c =
    let at = goal.at.overflow_add-start-in-loop-d c in omega (arith, (next at.After-divided-quotient).start_is, start-few at.In-loop-d)

pub overflow_mul-step : goal.overflow_mul-step
overflow_mul-step c =
    let at = goal.at.overflow_mul-step c in omega (arith, (next at.After-divided-quotient).step_is, step-few at.In-loop-d)

pub loop-d-preserved : goal.loop-d-preserved
loop-d-preserved c = next (goal.at.loop-d-preserved c).After-divided-quotient
