-- `fill::permille` meets its contract: the numbers are small. Assumes nothing.
use mathlib.Core.Path.{◌≡◌, ap}
use Prim.Native.Nat.{ℕ, ◌+◌, ◌*◌, ◌/◌}
use native.Mathlib.Omega.{arith}
use Rattle.sheet.specs.Fill.{half_up, permille}
use Rattle.fill.proofs.permille.Goals as goal

pub returns : goal.returns
unfolding permille half_up
returns c =
    let a = c.args in
    let twice : 2000 * a.c ≡ 2 * (1000 * a.c) = omega arith in
    ap (λ (x : ℕ). (x + a.n) / (2 * a.n)) twice
