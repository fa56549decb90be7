-- The number of points after a candidate falls where one position goes up, those before it stay and those after it start again.
-- Assumes nothing.
use mathlib.Core.Path.{◌≡◌, refl}
use mathlib.Core.List.{List}
use Prim.Native.Nat.{ℕ, zero, suc, ◌<◌}
use native.Mathlib.Omega.{arith}
use lib.IntN.{ℤ, ◌-ℤ◌}
use lib.Signed.{◌≤ℤ◌, ◌<ℤ◌, ≤ℤ_refl}
use Rattle.integers.specs.Integer.{nat, width}
use Rattle.integers.specs.Words.{word}
use Rattle.integers.proofs.Ints.{ints}
use Rattle.integers.proofs.Ranges.{nat-diff, count-below, record-ends}
use Rattle.sweep.specs.Theorem.{points_after}
use Rattle.sweep.proofs.Cover.{at, Same, same-less}

module _ (order : ℕ → ℕ) (low high : List ℤ) where
  pub after_same : (j : ℕ) {c d : List ℤ} → Same order j c d → points_after order low high j c ≡ points_after order low high j d
  unfolding points_after
  after_same zero s = refl
  after_same (suc j) {c} {d} s = rw (after_same j (same-less (omega arith) s), s.same j (omega arith))

  -- position j goes up
  pub after-up : (j : ℕ) {c d : List ℤ} → Same order j d c → at order c j <ℤ at order d j → at order d j ≤ℤ at order high j
      → points_after order low high (suc j) d < points_after order low high (suc j) c
  unfolding points_after
  after-up j {c} {d} s h g =
      let i = order j in
      let less : nat (word high (order j) -ℤ word d (order j)) < nat (word high (order j) -ℤ word c (order j)) =
      omega (ints, nat-diff (word high i) (word d i), nat-diff (word high i) (word c i)) in
      rw (after_same j s) (omega arith)

  -- a position before j goes up, and j starts again
  pub after-again : (j : ℕ) (c d : List ℤ) → points_after order low high j d < points_after order low high j c → at order d j ≡ at order low j
      → at order low j ≤ℤ at order high j → points_after order low high (suc j) d < points_after order low high (suc j) c
  unfolding points_after
  after-again j c d h e g =
      rw e (omega (arith, record-ends (width (at order low j) (at order high j)) h, count-below g (≤ℤ_refl (at order high j))))
