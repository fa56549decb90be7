-- `nearby::suspect::most` meets its contract: 32 rows times 32 rules fit. Assumes nothing.
use mathlib.Core.Path.{ap₂}
use Prim.Native.Nat.{◌*◌, ◌≤◌}
use native.Mathlib.Nat.{mul-le-mul_right}
use native.Mathlib.Omega.{arith}
use Rattle.nearby.proofs.suspect.most.Goals as goal

pub overflow_mul-result : goal.overflow_mul-result
overflow_mul-result c =
    let n = c.rows_of.result in
    let h : n ≤ 32 = omega (arith, c.rows_of.ensures, c.requires.1.few_rows) in
    omega (arith, mul-le-mul_right c.how_many.result h, c.how_many.ensures.1)

pub returns : goal.returns
returns c = ap₂ ◌*◌ c.rows_of.ensures c.how_many.ensures.0
