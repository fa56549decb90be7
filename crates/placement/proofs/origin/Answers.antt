-- `placement::origin` meets its contract: the words below d are the row's low ends. Assumes nothing.
use native.Mathlib.Omega.{arith}
use Rattle.placement.proofs.origin.Goals as goal

pub returns : goal.returns
returns c d h = c.loop-d.invariant.1 d (omega (arith, c.loop-d-test.false, c.axes_of-d-end.ensures))
