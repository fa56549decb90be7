-- `rotated` gives the rotation: the three tests of the code are those of the definition, and its table is that of the rule, which the checker
-- computes. Assumes nothing.
use mathlib.Core.Path.{◌≡◌, sym, ap, ◌∙◌}
use Prim.Native.Nat.{ℕ, suc, ◌-◌, ◌+◌}
use native.Mathlib.Omega.{arith}
use borrow.Author.Tests.{ltb-true}
use Rattle.integers.specs.Words.{list_below}
use Rattle.sweep.proofs.Rotations.{rotation-out, rotation_below}
use Rattle.sweep.proofs.Table.{reduced, table-rule, reduced-rotation}
use Rattle.sweep.proofs.rotated.Goals as goal
use Rattle.sweep.proofs.rotated.Goals.{else-k-le-COORDINATES-via-then-k-le-COORDINATES+then-d-k+else-j-k}
use Rattle.sweep.proofs.rotated.Goals.{else-k-le-COORDINATES-via-then-k-le-COORDINATES+else-d-k, else-k-le-COORDINATES-via-else-k-le-COORDINATES}

-- the entry that is read is the rotation's
pub returns-then-j-k : goal.returns-then-j-k
unfolding list_below
returns-then-j-k c =
    let a = c.args in
    let e : suc (a.k - 1) ≡ a.k = omega (arith, ltb-true) in
    table-rule (a.k - 1) a.d a.j (omega (arith, ltb-true)) (omega (arith, ltb-true)) (omega (arith, ltb-true))
    ∙ ap (λ (m : ℕ). reduced m (a.j + a.d)) e
    ∙ reduced-rotation (omega (arith, ltb-true)) (omega (arith, ltb-true)) (omega (arith, ltb-true))

pub overflow_sub-result : goal.overflow_sub-result
overflow_sub-result c = omega (arith, ltb-true)

pub offset_bounds-table-d : goal.offset_bounds-table-d
offset_bounds-table-d c = omega (arith, ltb-true)

pub bounds-table-d : goal.bounds-table-d
bounds-table-d c = omega (arith, ltb-true)

pub bounds-table-j : goal.bounds-table-j
bounds-table-j c = omega (arith, ltb-true)

pub overflow_cast-result : goal.overflow_cast-result
overflow_cast-result c = let a = c.args in omega (arith, returns-then-j-k c, rotation_below a.k a.d a.j)

pub returns-else-k-le-COORDINATES : goal.returns-else-k-le-COORDINATES
returns-else-k-le-COORDINATES c =
    sym (rotation-out _ _ _ (λ w. elim c.else-k-le-COORDINATES.branch [
      | else-k-le-COORDINATES-via-then-k-le-COORDINATES+then-d-k+else-j-k u ↦ omega arith
      | else-k-le-COORDINATES-via-then-k-le-COORDINATES+else-d-k u ↦ omega arith
      | else-k-le-COORDINATES-via-else-k-le-COORDINATES u ↦ omega arith
    ]))
