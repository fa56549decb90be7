-- `words::rows_of` meets its contract: the code's division is the definition's. Assumes nothing.
use native.Mathlib.Omega.{arith}
use Rattle.sheet.specs.Layout.{row_len, rows}
use Rattle.words.proofs.rows_of.Goals as goal

pub nonzero_div-result : goal.nonzero_div-result
unfolding row_len
nonzero_div-result c = omega (arith, c.row_len.ensures)

pub returns : goal.returns
unfolding rows
returns c = rw c.row_len.ensures
