-- `nearby::gather::hulls` meets its contract. Assumes nothing.
use mathlib.Core.Path.{ap₂}
use Prim.Native.Nat.{ℕ}
use Rattle.nearby.proofs.gather.hulls.Goals as goal

pub returns : goal.returns
returns c =
    let a = c.args in
    ap₂ (λ (x y : ℕ). record { r = a.r; own = x; j = a.j; other = y }) c.hull_of.ensures c.hull_of-2.ensures
