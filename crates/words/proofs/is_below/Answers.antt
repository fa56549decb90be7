-- `is_below` meets its contract: what a shift leaves nothing of is below the power. Assumes nothing.
use mathlib.Core.Path.{◌≡◌}
use Prim.Native.Nat.{◌/◌, ◌*◌, ◌^◌, ◌<◌}
use native.Mathlib.Nat.{div-lt_iff_lt-mul}
use native.Mathlib.Omega.{arith}
use lib.Pow.{pow_pos}
use borrow.Author.Tests.{eqb-true, eq-eqb}
use Rattle.words.proofs.is_below.Goals as goal

pub returns : goal.returns
returns c = (
  (λ e.
      let a = c.args in
      let z : a.set / 2 ^ a.s ≡ 0 = eqb-true (a.set / 2 ^ a.s) 0 e in
      let h : a.set < 1 * 2 ^ a.s = (div-lt_iff_lt-mul (pow_pos a.s)).0 (omega arith) in
      omega arith),
  (λ h.
      let a = c.args in
      let l : a.set / 2 ^ a.s < 1 = (div-lt_iff_lt-mul (pow_pos a.s)).1 (omega arith) in
      let z : a.set / 2 ^ a.s ≡ 0 = omega arith in
      eq-eqb (a.set / 2 ^ a.s) 0 z),
)
