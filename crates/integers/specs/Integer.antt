-- Integers: reading one as a count, its two parts, the tests that compute, and bounds on its size.
-- Assumes nothing.
use Rattle.std.specs.Prelude.{Bool, false, cond, ◌&&◌, ℕ, suc, ◌+◌, ◌≤◌, eqb, ℤ, pos, negsuc, neg_ℤ, ◌+ℤ◌, ◌-ℤ◌}
use Rattle.std.specs.Int.Signed.{le_z}

-- −n
abbrev pub minus : ℕ → ℤ
minus n = neg_ℤ (pos n)

-- an integer read as a count, an index or a set: a negative one is 0
abbrev pub nat : ℤ → ℕ
nat (pos n) = n
nat (negsuc n) = 0

-- z is up z − dn z, and one of the two is 0
abbrev pub up : ℤ → ℕ
up (pos n) = n
up (negsuc n) = 0

abbrev pub dn : ℤ → ℕ
dn (pos n) = 0
dn (negsuc n) = suc n

unfoldable pub eq_z : ℤ → ℤ → Bool
eq_z (pos a) (pos b) = eqb a b
eq_z (pos a) (negsuc b) = false
eq_z (negsuc a) (pos b) = false
eq_z (negsuc a) (negsuc b) = eqb a b

-- z is from a to b, both included
unfoldable pub within : ℤ → ℤ → ℤ → Bool
within a b z = le_z a z && le_z z b

-- the larger and the lesser of two
abbrev pub max_z : ℤ → ℤ → ℤ
max_z a b = cond (le_z a b) b a

abbrev pub min_z : ℤ → ℤ → ℤ
min_z a b = cond (le_z a b) a b

-- how many integers lie from a to b
unfoldable pub width : ℤ → ℤ → ℕ
width a b = nat (b -ℤ a +ℤ pos 1)

-- −n ≤ z ≤ n
pub record Within (n : ℕ) (z : ℤ) : Type 0 where
  pub above : dn z ≤ n + up z
  pub below : up z ≤ n + dn z
