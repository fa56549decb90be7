-- `splits::shapes_between` meets its contract: so far the set has the shapes passed. Assumes nothing.
use mathlib.Core.Path.{sym}
use Rattle.integers.proofs.Sets.{set_of-zero}
use Rattle.splits.proofs.shapes_between.Goals as goal

pub loop-s-init : goal.loop-s-init
loop-s-init c = sym (set_of-zero _)
