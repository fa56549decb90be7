-- A fixed placement, row by row: each range is one number, and each set holds one shape. Assumes nothing.
use mathlib.Core.Path.{◌≡◌}
use mathlib.Core.Bool.{Bool, true}
use mathlib.Core.List.{List}
use Prim.Native.Nat.{ℕ, ◌≤◌}
use lib.IntN.{ℤ}
use Rattle.integers.specs.Integer.{eq_z}
use Rattle.integers.specs.Below.{all_below, any_up_to, UpTo}
use Rattle.integers.proofs.Booleans.{and-true}
use Rattle.integers.proofs.Below.{all-at, upto-at, some-upto}
use Rattle.integers.proofs.Ints.{eq_z-eq}
use Rattle.integers.proofs.Sets.{held-only}
use Rattle.sheet.specs.Layout.{axes, rows, shape_set, low, high, has_shape, has_only}
use Rattle.sheet.specs.Placement.{row_fixed, fixed}
use Rattle.sheet.proofs.Exchange.{Still}

module _ (block : List ℤ) (table : List ℤ) where
  -- i is the number of a row
  abbrev pub Row : ℕ → Type 0
  Row i = UpTo (rows block table) i

  module _ (all-fixed : fixed block table ≡ true) where
    abbrev one_number : ℕ → ℕ → Bool
    one_number i d = eq_z (low block table i d) (high block table i d)

    row-parts : (i : ℕ) → Row i → (any_up_to 32 (has_only block table i) ≡ true) × (all_below (axes block) (one_number i) ≡ true)
    unfolding fixed row_fixed
    row-parts i h = and-true (upto-at (row_fixed block table) all-fixed i h.from h.upto)

    pub still : (i : ℕ) → Row i → Still block table i
    still i h d l = eq_z-eq (all-at (one_number i) (row-parts i h).1 d l)

    -- the one shape of row i
    pub one : (i : ℕ) → Row i → (s : ℕ) × (1 ≤ s) × (s ≤ 32) × (has_only block table i s ≡ true)
    one i h = some-upto (has_only block table i) (row-parts i h).0

    pub only : (i s : ℕ) → Row i → has_shape block table i s ≡ true → has_only block table i s ≡ true
    unfolding has_shape has_only
    only i s h t = let w = one i h in held-only (shape_set block table i) w.0 s w.3 t
