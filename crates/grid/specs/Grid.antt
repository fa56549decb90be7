-- Bricks of cells in a grid of k dimensions: which cells a brick has, and its lines along the first dimension. Assumes nothing.
use Rattle.std.specs.Prelude.{Bool, ◌&&◌, List, ℕ, zero, suc, ◌+◌, ◌≤◌, ◌<◌, leb, ltb, get_or}
use Rattle.integers.specs.Below.{all_below, product_below}
use Rattle.integers.specs.Digits.{digit, number_of}
use Rattle.grid.specs.declared.Brick.{Brick}

-- the most cells of a grid
abbrev pub cells_most : ℕ
cells_most = 4096

-- the number for dimension d
abbrev pub at : List ℕ → ℕ → ℕ
at xs d = get_or xs d 0

module _ (k : ℕ) (widths : List ℕ) (x : Brick) where
  -- the brick has cells, and all of them lie in a grid that is not too large
  pub record Lies : Type 0 where
    pub some_dims : 1 ≤ k
    pub few_dims : k ≤ 4
    pub few_cells : product_below k (at widths) ≤ cells_most
    pub sizes : (d : ℕ) → d < k → 1 ≤ at x.size d
    pub inside : (d : ℕ) → d < k → at x.from d + at x.size d ≤ at widths d

  -- cell m is one of the brick's
  unfoldable pub in_brick : ℕ → Bool
  in_brick m = all_below k (λ d. leb (at x.from d) (digit (at widths) m d) && ltb (digit (at widths) m d) (at x.from d + at x.size d))

-- ---- lines along the first dimension
-- cell m is one of n from a start on
unfoldable pub in_line : ℕ → ℕ → ℕ → Bool
in_line start n m = leb start m && ltb m (start + n)

-- the places of a brick's lines: one in the first dimension
unfoldable pub line_size : List ℕ → ℕ → ℕ
line_size size zero = 1
line_size size (suc d) = at size (suc d)

abbrev pub lines : ℕ → List ℕ → ℕ
lines k size = product_below k (line_size size)

-- the first cell of line j
unfoldable pub line_start : ℕ → (widths from size : List ℕ) → ℕ → ℕ
line_start k widths from size j = number_of k (at widths) (λ d. at from d + digit (line_size size) j d)
