-- Numbers as sets: bit d of a number, and the numbers from 1 up that a set holds, bit m − 1 standing for m.
-- Assumes nothing.
use Rattle.std.specs.Prelude.{Bool, false, cond, ℕ, zero, suc, ◌+◌, ◌/◌, ◌%◌, ◌^◌, eqb, ℤ, pos}
use Rattle.integers.specs.Integer.{nat, eq_z}

-- bit d of x: 0 or 1
unfoldable pub bit_at : ℕ → ℕ → ℕ
bit_at x d = x / 2 ^ d % 2

-- bit d of a set is set; a negative number has no bit
unfoldable pub bit : ℤ → ℕ → Bool
bit set d = eqb (bit_at (nat set) d) 1

-- number m is in a set; 0 is in none
unfoldable pub holds : ℤ → ℕ → Bool
holds set zero = false
holds set (suc m) = bit set m

-- m is the one number in a set
unfoldable pub holds_only : ℤ → ℕ → Bool
holds_only set zero = false
holds_only set (suc m) = eq_z set (pos (2 ^ m))

-- the set of the numbers 1 to n at which f passes
unfoldable pub set_of : ℕ → (ℕ → Bool) → ℕ
set_of zero f = 0
set_of (suc m) f = set_of m f + cond (f (suc m)) (2 ^ m) 0
