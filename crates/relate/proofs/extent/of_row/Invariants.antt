-- `relate::extent::of_row` meets its contract: the extent is that of the row's boxes before b. Assumes nothing.
use mathlib.Core.Path.{◌≡◌}
use Rattle.relate.proofs.Extents.{start_to, end_to}
use Rattle.relate.proofs.extent.of_row.Given as goal

abbrev pub invariant-loop-b : goal.invariant-loop-b
invariant-loop-b l = (l.x.start ≡ start_to l.block l.table l.i l.d l.b) × (l.x.end ≡ end_to l.block l.table l.i l.d l.b)
