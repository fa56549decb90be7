-- Numbers by digits, each place d with a base w d of its own: the first digit counts fastest. Assumes nothing.
use Rattle.std.specs.Prelude.{ℕ, ◌*◌, ◌/◌, ◌%◌}
use Rattle.integers.specs.Below.{sum_below, product_below}

-- the digit of m at place d
unfoldable pub digit : (ℕ → ℕ) → ℕ → ℕ → ℕ
digit w m d = m / product_below d w % w d

-- the number with the digits c 0 to c (k − 1)
unfoldable pub number_of : ℕ → (ℕ → ℕ) → (ℕ → ℕ) → ℕ
number_of k w c = sum_below k (λ d. c d * product_below d w)
