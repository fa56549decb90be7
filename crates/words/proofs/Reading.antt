-- Words as the readers hand them on: a signed result comes back from its bits, and a word that is a count, an index or a set
-- is cast to a number. Assumes nothing.
use mathlib.Core.Path.{◌≡◌, ap, ◌∙◌}
use Prim.Native.Nat.{◌^◌, ◌<◌}
use lib.IntN.{ℤ, nat_abs}
use lib.Signed.{mag}
use mir.Syntax.{w64}
use mir.Val.{to_z, of_z}
use mir.Facts.{to_z-of_z}
use Rattle.integers.specs.Integer.{nat}
use Rattle.integers.proofs.Machine.{fits_word}
use Rattle.integers.proofs.Ranges.{nat-abs}
use Rattle.sheet.specs.Accepted.{Count}

-- a call f's signed result, by `c.f.ensures` and `c.f.ok`
pub read_back : {z w : ℤ} → z ≡ w → mag z < 2 ^ 63 → to_z w64 (of_z w64 z) ≡ w
read_back {z} e g = to_z-of_z (fits_word z g) ∙ e

pub cast-nat : (z : ℤ) → mag z < 2 ^ 63 → Count z → nat_abs (to_z w64 (of_z w64 z)) ≡ nat z
cast-nat z g h = ap nat_abs (to_z-of_z (fits_word z g)) ∙ nat-abs h.from
