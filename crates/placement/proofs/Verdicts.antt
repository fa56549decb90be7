-- A call that is given a fixed placement: what its checks leave. Assumes nothing.
use mathlib.Core.Path.{◌≡◌}
use mathlib.Core.Bool.{true}
use mathlib.Core.List.{List}
use lib.IntN.{ℤ}
use Rattle.integers.proofs.Booleans.{not-false}
use Rattle.sheet.specs.Placement.{fixed}
use Rattle.sheet.specs.Refusal.{◌when◌, not_fixed, refusal, refusal_placement}
use Rattle.sheet.proofs.Accepted.{when-zero, else-zero}

pub checked : (block : List ℤ) (t : List ℤ) → refusal_placement block t ≡ 0 → (refusal block t ≡ 0) × (fixed block t ≡ true)
unfolding refusal_placement not_fixed
checked block t e =
    let b = else-zero (refusal block t) (12 when not_fixed block t) e in
    (b.0, not-false (when-zero 11 (not_fixed block t) b.1))
