-- `accept::block::valid_extents` meets its contract: an extent is tested a turn. Assumes nothing.
use mathlib.Core.Path.{sym}
use native.Mathlib.Omega.{arith}
use Rattle.std.proofs.Common.{rules}
use Rattle.integers.proofs.Below.{all-zero, all-false}
use Rattle.accept.proofs.Turns.{fails_by, passes-by, all-next, all_done}
use Rattle.accept.proofs.block.valid_extents.Goals as goal

pub loop-d-init : goal.loop-d-init
loop-d-init c = all-zero _

pub returns-then-not-valid_extent : goal.returns-then-not-valid_extent
returns-then-not-valid_extent c = sym (all-false _ c.loop-d.d (omega arith) (fails_by c.valid_extent.ensures (search rules)))

pub loop-d-preserved : goal.loop-d-preserved
loop-d-preserved c = all-next _ c.loop-d.invariant (passes-by c.valid_extent.ensures (search rules))

pub returns : goal.returns
returns c = sym (all_done _ c.loop-d.invariant (omega arith))
