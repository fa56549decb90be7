-- `fill::room::widths_of` meets its contract: the numbers below d are the room's widths. Assumes nothing.
use mathlib.Core.Path.{◌≡◌}
use lib.ListN.{length}
use Rattle.fill.specs.Room.{IsWidth}
use Rattle.fill.proofs.Arrays.{Holds}
use Rattle.fill.proofs.room.widths_of.Given as goal

abbrev pub invariant-loop-d : goal.invariant-loop-d
invariant-loop-d l = (length l.widths ≡ 4) × Holds (IsWidth l.block l.r.number) l.widths l.d
