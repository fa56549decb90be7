-- `words::is_within` meets its contract: the two comparisons are the range test. Assumes nothing.
use mathlib.Core.Path.{◌≡◌}
use mathlib.Core.Bool.{true, false}
use lib.Signed.{le_z}
use mir.Facts.{to_z-of_z}
use Rattle.integers.specs.Integer.{within}
use Rattle.integers.proofs.Ints.{ints}
use Rattle.words.proofs.is_within.Goals as goal

pub returns-then-lo-w : goal.returns-then-lo-w
unfolding within
returns-then-lo-w c =
    let e : le_z c.before.args.lo c.before.args.w ≡ true = omega ints in
    rw (e, to_z-of_z c.before.ranges.w, to_z-of_z c.before.ranges.hi)

pub returns-else-lo-w : goal.returns-else-lo-w
unfolding within
returns-else-lo-w c =
    let e : le_z c.before.args.lo c.before.args.w ≡ false = omega ints in
    rw (e, to_z-of_z c.before.ranges.lo, to_z-of_z c.before.ranges.w, e)
