-- What putting the rows of a table needs. Assumes nothing.
use Rattle.std.specs.Prelude.{List, ℕ, ◌*◌, ◌<◌, ◌≤◌, ℤ, length}
use Rattle.sheet.specs.Layout.{table_most}

-- n rows of len words each, which are some, stand in a table that is not too long, and their lines start soon after the first byte
pub record RowsAhead (at len n : ℕ) (table : List ℤ) : Type 0 where
  pub some : 0 < len
  pub early : at ≤ 1000
  pub inside : n * len ≤ length table
  pub table_short : length table ≤ table_most
  pub few : n ≤ table_most
