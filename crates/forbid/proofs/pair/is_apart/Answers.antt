-- `forbid::pair::is_apart` meets its contract: a number in both ranges would refute each test. Assumes nothing.
use mathlib.Core.Logic.{⊎_elim}
use mathlib.Core.Bool.{◌||◌}
use lib.IntN.{ℤ}
use lib.Signed.{lt_z}
use mir.Syntax.{w64}
use mir.Val.{to_z, of_z}
use Rattle.integers.proofs.Booleans.{or-true}
use Rattle.integers.proofs.Ints.{ints, within-true}
use Rattle.forbid.proofs.pair.is_apart.Goals as goal

-- a number as the machine holds it
abbrev held : ℤ → ℤ
held z = to_z w64 (of_z w64 z)

pub returns : goal.returns
returns c e z h k =
    let w = within-true h in
    let v = within-true k in
    let a = c.args in
    ⊎_elim
    (λ x. ⊎_elim (λ y. omega (ints, w, v, y)) (λ y. omega (ints, w, v, y))
    (or-true {a = lt_z (held a.to) (held a.low)} {b = lt_z (held a.high) (held a.from)} x))
    (λ y. omega (ints, w, v, y))
    (or-true {a = lt_z (held a.to) (held a.low) || lt_z (held a.high) (held a.from)} {b = lt_z (held a.to) (held a.from)} e)
