-- Numbers that calls hand back: read again from their bits, and summed within reach. Assumes nothing.
use mathlib.Core.Path.{◌≡◌, ◌∙◌}
use Prim.Native.Nat.{◌^◌, ◌≤◌, ◌<◌}
use native.Mathlib.Omega.{arith}
use lib.Dec.{T, leb, ltb, leb→le, lt→ltb}
use lib.IntN.{ℤ}
use lib.Signed.{mag}
use mir.Syntax.{w64}
use mir.Val.{to_z, of_z}
use mir.Facts.{to_z-of_z}
use Rattle.std.specs.Int.{int_max, int_min}
use Rattle.integers.specs.Integer.{Within, max_z, min_z}
use Rattle.integers.proofs.Ints.{ints}
use Rattle.integers.proofs.Machine.{Expr, value_of, size_of, bits_of, fits_word, exact, exact-within, within-fits, within_by, within-weaken}
use Rattle.points.specs.Area.{reach}

-- read again from the bits: z is a call's result or a word that was read, and the bound its `.ok` or `.given`; or it is within reach
pub bits_back : {z : ℤ} → mag z < 2 ^ 63 → to_z w64 (of_z w64 z) ≡ z
bits_back {z} h = to_z-of_z (fits_word z h)

pub near-back : {z : ℤ} → Within reach z → to_z w64 (of_z w64 z) ≡ z
near-back h = to_z-of_z (within-fits h tt)

-- an expression as the machine computes it, whose size is small; z is its value in the words of a definition
pub sum_is : (x : Expr) {z : ℤ} → T (leb (size_of x) reach) → value_of x ≡ z
    → (to_z w64 (bits_of x) ≡ z) × Within reach (to_z w64 (bits_of x))
sum_is x t e =
    let l : size_of x ≤ reach = leb→le (size_of x) reach t in
    let u : T (ltb (size_of x) (2 ^ 63)) = lt→ltb (size_of x) (2 ^ 63) (omega arith) in
    (exact x u ∙ e, within_by (exact x u) (within-weaken l (exact-within x u)))

-- ---- the library's larger and lesser of two
pub max_is : (a b : ℤ) → int_max a b ≡ max_z a b
max_is a b = grind (arith, ints)

pub min_is : (a b : ℤ) → int_min a b ≡ min_z a b
min_is a b = grind (arith, ints)
