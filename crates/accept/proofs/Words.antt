-- Two words that were read, and a word and 0, compared by the code as the definitions compare them. Assumes nothing.
use mathlib.Core.Path.{◌≡◌, refl, ap₂, ◌∙◌}
use Prim.Native.Nat.{◌^◌, ◌<◌}
use native.Mathlib.Omega.{arith}
use lib.Dec.{eqb}
use lib.IntN.{ℤ, pos}
use lib.Signed.{mag}
use mir.Syntax.{w64}
use mir.Val.{of_z}
use Rattle.integers.specs.Integer.{eq_z}
use Rattle.integers.proofs.Machine.{eqb-bits, fits_word}

pub same-read : {y z v w : ℤ} → y ≡ v → mag y < 2 ^ 63 → z ≡ w → mag z < 2 ^ 63 → eqb (of_z w64 y) (of_z w64 z) ≡ eq_z v w
same-read {y} {z} e f g h = eqb-bits (fits_word y f) (fits_word z h) ∙ ap₂ eq_z e g

pub zero-read : {z w : ℤ} → z ≡ w → mag z < 2 ^ 63 → eqb (of_z w64 z) 0 ≡ eq_z w (pos 0)
zero-read e f = same-read {z = pos 0} e f refl (omega arith)
