-- `accept::block::valid_extents` meets its contract: an extent is tested a turn. Assumes nothing.
use mathlib.Core.Path.{◌≡◌}
use mathlib.Core.Bool.{true}
use Rattle.integers.specs.Below.{all_below}
use Rattle.accept.specs.Parts.{valid_extent}
use Rattle.accept.proofs.block.valid_extents.Given as goal

abbrev pub invariant-loop-d : goal.invariant-loop-d
invariant-loop-d l = all_below l.d (valid_extent l.block l.b.number) ≡ true
