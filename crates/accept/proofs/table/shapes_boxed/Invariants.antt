-- `accept::table::shapes_boxed` meets its contract: a shape is tested a turn. Assumes nothing.
use mathlib.Core.Path.{◌≡◌}
use mathlib.Core.Bool.{true}
use Rattle.integers.specs.Below.{all_up_to}
use Rattle.accept.specs.Parts.{shape_boxed}
use Rattle.accept.proofs.table.shapes_boxed.Given as goal

abbrev pub invariant-loop-s : goal.invariant-loop-s
invariant-loop-s l = all_up_to l.s (shape_boxed l.block l.table l.i.number) ≡ true
