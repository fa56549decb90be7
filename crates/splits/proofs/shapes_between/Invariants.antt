-- `splits::shapes_between` meets its contract: so far the set has the shapes passed. Assumes nothing.
use mathlib.Core.Path.{◌≡◌}
use Rattle.integers.specs.Bits.{set_of}
use Rattle.splits.specs.Splits.{is_between}
use Rattle.splits.proofs.shapes_between.Given as goal

abbrev pub invariant-loop-s : goal.invariant-loop-s
invariant-loop-s l = l.shapes ≡ set_of l.s (is_between l.set l.from l.to)
