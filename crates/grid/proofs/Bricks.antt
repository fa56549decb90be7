-- A brick is its lines (`brick-lines`): a cell of a line has the places of the line's first cell but in the first dimension, and a cell of the
-- brick lies in the line with its other places. All numbers on the way are at most those of the grid's cells. Assumes nothing.
use mathlib.Core.Path.{◌≡◌, refl, sym, ap, ◌∙◌}
use mathlib.Core.Bool.{Bool, true}
use mathlib.Core.List.{List}
use Prim.Native.Nat.{ℕ, zero, suc, ◌+◌, ◌-◌, ◌≤◌, ◌<◌}
use native.Mathlib.Nat.{le_refl, le_trans, le-mul_of_pos_right, mul_comm}
use native.Mathlib.Omega.{arith}
use Rattle.integers.specs.Below.{any_below, product_below}
use Rattle.integers.specs.Digits.{digit, number_of}
use Rattle.integers.proofs.Booleans.{both_ways}
use Rattle.integers.proofs.Below.{all-at, at_all, any_at, any-true}
use Rattle.integers.proofs.Digits.{product-more, product-some, product_le, product_each}
use Rattle.integers.proofs.Digits.{digit-below, digits_number, number-below, number_digits, number-first}
use Rattle.grid.specs.declared.Brick.{Brick}
use Rattle.grid.specs.Grid.{cells_most, at, Lies, in_brick, in_line, line_size, lines, line_start}
use Rattle.grid.proofs.Marks.{line_at, at-line}

-- the places of the first cell of a brick's line j
abbrev first : Brick → (j : ℕ) → ℕ → ℕ
first x j d = at x.from d + digit (line_size x.size) j d

-- and of cell y of the line
unfoldable spot : Brick → (j y : ℕ) → ℕ → ℕ
spot x j y zero = at x.from 0 + y
spot x j y (suc d) = first x j (suc d)

-- how far cell m lies from the brick's first place, in each dimension but the first
unfoldable across : List ℕ → Brick → (m : ℕ) → ℕ → ℕ
across widths x m zero = 0
across widths x m (suc d) = digit (at widths) m (suc d) - at x.from (suc d)

-- cell m is one of a brick's line j
abbrev pub on_line : ℕ → List ℕ → Brick → (j m : ℕ) → Bool
on_line k widths x j m = in_line (line_start k widths x.from x.size j) (at x.size 0) m

module _ {k : ℕ} {widths : List ℕ} {x : Brick} (lies : Lies k widths x) where
  wide : (d : ℕ) → d < k → 1 ≤ at widths d
  wide d l = omega (arith, lies.sizes d l, lies.inside d l)

  -- ---- sizes
  size-some : (d : ℕ) → d < k → 1 ≤ line_size x.size d
  unfolding line_size
  size-some zero l = le_refl 1
  size-some (suc d) l = lies.sizes (suc d) l

  size-upto : (d : ℕ) → d < k → line_size x.size d ≤ at x.size d
  unfolding line_size
  size-upto zero l = lies.sizes 0 l
  size-upto (suc d) l = le_refl _

  pub lines-few : {d : ℕ} → d ≤ k → lines d x.size ≤ cells_most
  lines-few l =
      le_trans (product_le size-some l)
      (le_trans (product_each (λ d h. omega (arith, size-upto d h, lies.inside d h))) lies.few_cells)

  pub steps-few : {d : ℕ} → d ≤ k → product_below d (at widths) ≤ cells_most
  steps-few l = le_trans (product_le wide l) lies.few_cells

  pub width_few : {d : ℕ} → d < k → at widths d ≤ cells_most
  width_few {d} l =
      let some = product-some {w = at widths} {k = d} (λ e h. wide e (omega arith)) in
      let more = steps-few {d = d + 1} (omega arith) in
      omega (arith, product-more d (at widths), le-mul_of_pos_right (at widths d) some, mul_comm (at widths d) (product_below d (at widths)))

  -- ---- the first cell of line j
  module _ (j : ℕ) where
    offset-below : (d : ℕ) → d < k → digit (line_size x.size) j d < line_size x.size d
    offset-below d l = digit-below (line_size x.size) j d (size-some d l)

    offset-first : digit (line_size x.size) j 0 ≡ 0
    unfolding line_size
    offset-first = omega (arith, offset-below 0 lies.some_dims)

    pub start-below : {d : ℕ} → d ≤ k → line_start d widths x.from x.size j < product_below d (at widths)
    unfolding line_start
    start-below {d} l =
        number-below (λ e h. let i : e < k = omega arith in omega (arith, offset-below e i, size-upto e i, lies.inside e i))

    -- ---- cell y of line j
    line-cell : (y : ℕ) → number_of k (at widths) (spot x j y) ≡ line_start k widths x.from x.size j + y
    unfolding line_start spot
    line-cell y = number-first (at widths) (first x j) (spot x j y) y lies.some_dims (omega (arith, offset-first)) (λ d l. refl)

    spot_in : {y : ℕ} → y < at x.size 0 → (d : ℕ) → d < k → (at x.from d ≤ spot x j y d) × (spot x j y d < at x.from d + at x.size d)
    unfolding spot
    spot_in h zero l = (omega arith, omega arith)
    spot_in h (suc d) l = (omega arith, omega (arith, offset-below (suc d) l, size-upto (suc d) l))

    spot-below : {y : ℕ} → y < at x.size 0 → (d : ℕ) → d < k → spot x j y d < at widths d
    spot-below h d l = omega (arith, (spot_in h d l).1, lies.inside d l)

    pub line-fits : line_start k widths x.from x.size j + at x.size 0 ≤ cells_most
    line-fits =
        let some = lies.sizes 0 lies.some_dims in
        let last : ℕ = at x.size 0 - 1 in
        omega (arith, line-cell last, number-below (spot-below {y = last} (omega arith)), lies.few_cells)

    cell-in-brick : (m : ℕ) → on_line k widths x j m ≡ true → in_brick k widths x m ≡ true
    unfolding in_brick in_line
    cell-in-brick m e = at_all (λ d l. let p = spot_in h d l in in_place d (omega (arith, place d l)) (omega (arith, place d l)))
      where
        y : ℕ
        y = m - line_start k widths x.from x.size j

        h : y < at x.size 0
        h = let p = line_at _ _ m e in omega arith

        cell : number_of k (at widths) (spot x j y) ≡ m
        cell = let p = line_at _ _ m e in omega (arith, line-cell y)

        in_place : (d : ℕ) → at x.from d ≤ digit (at widths) m d → digit (at widths) m d < at x.from d + at x.size d
            → in_line (at x.from d) (at x.size d) (digit (at widths) m d) ≡ true
        in_place d = at-line (at x.size d)

        place : (d : ℕ) → d < k → digit (at widths) m d ≡ spot x j y d
        place d l = ap (λ (n : ℕ). digit (at widths) n d) (sym cell) ∙ number_digits (spot-below h) d l

  -- ---- the line of a brick's cell
  module _ (m : ℕ) (inside-brick : in_brick k widths x m ≡ true) where
    place_in : (d : ℕ) → d < k → (at x.from d ≤ digit (at widths) m d) × (digit (at widths) m d < at x.from d + at x.size d)
    unfolding in_brick in_line
    place_in d l = line_at (at x.from d) (at x.size d) (digit (at widths) m d) (all-at _ inside-brick d l)

    across-below : (d : ℕ) → d < k → across widths x m d < line_size x.size d
    unfolding across line_size
    across-below zero l = le_refl 1
    across-below (suc d) l = let p = place_in (suc d) l in omega arith

    abbrev line : ℕ
    line = number_of k (line_size x.size) (across widths x m)

    line-below : line < lines k x.size
    line-below = number-below across-below

    line-places : (d : ℕ) → suc d < k → digit (at widths) m (suc d) ≡ first x line (suc d)
    unfolding across
    line-places d l = let p = place_in (suc d) l in omega (arith, number_digits across-below (suc d) l)

    in-its-line : m < product_below k (at widths) → on_line k widths x line m ≡ true
    unfolding line_start
    in-its-line h =
        let p = place_in 0 lies.some_dims in
        let y : ℕ = digit (at widths) m 0 - at x.from 0 in
        let more = number-first (at widths) (first x line) (digit (at widths) m) y lies.some_dims (omega (arith, offset-first line)) line-places in
        let whole = digits_number wide h in
        at-line (at x.size 0) (omega arith) (omega arith)

  pub brick-lines : (m : ℕ) → m < product_below k (at widths)
      → any_below (lines k x.size) (λ j. on_line k widths x j m) ≡ in_brick k widths x m
  brick-lines m h =
      both_ways _ _ (λ e. let w = any_at e in cell-in-brick w.0 m w.2)
      (λ e. any-true _ (line m e) (line-below m e) (in-its-line m e h))
