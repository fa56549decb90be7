-- `form::headed` meets its contract. Assumes nothing.
use Rattle.std.proofs.Math.Facts.{to_z-of_z}
use Rattle.line.specs.Answers.{placed}
use Rattle.form.specs.Parsed.{filled}
use Rattle.form.proofs.headed.Goals as goal

pub returns : goal.returns
unfolding placed filled
returns c =
    let put = simp (to_z-of_z c.ranges.k, c.zeros-b.ensures) at c.put.ensures in
    rw (put, c.zeros.ensures)
