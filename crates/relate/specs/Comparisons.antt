-- Which entry of the code's table stands for a comparison. Assumes nothing.
use Rattle.std.specs.Prelude.{ℕ}
use Rattle.sheet.specs.Relation.{Comparison, less, equal, greater}

unfoldable pub index_of : Comparison → ℕ
index_of less = 0
index_of equal = 1
index_of greater = 2
