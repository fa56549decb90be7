-- `fill::cells::brick_of` meets its contract: the places below d are the box's. Assumes nothing.
use mathlib.Core.Path.{◌≡◌}
use lib.ListN.{length}
use Rattle.fill.specs.Room.{IsPlace, IsSize}
use Rattle.fill.proofs.Arrays.{Holds}
use Rattle.fill.proofs.cells.brick_of.Given as goal

abbrev pub invariant-loop-d : goal.invariant-loop-d
invariant-loop-d l =
    (length l.from ≡ 4) × (length l.size ≡ 4)
    × Holds (IsPlace l.block l.table l.r.number l.i.number l.b.number) l.from l.d
    × Holds (IsSize l.block l.b.number) l.size l.d
