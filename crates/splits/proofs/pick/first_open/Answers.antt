-- `splits::pick::first_open` meets its contract: the rows passed are fixed. Assumes nothing.
use mathlib.Core.Logic.{⊎_elim}
use Prim.Native.Nat.{◌<◌}
use native.Mathlib.Omega.{arith}
use Rattle.integers.proofs.Below.{same_or}
use Rattle.splits.proofs.Picks.{all-fixed}
use Rattle.splits.proofs.pick.first_open.Goals as goal

pub returns-in_default : goal.returns-in_default
returns-in_default c =
    let past = rw c.row_place.ensures.1 at c.in_default.ensures in
    let end = c.rows_of-row-end.ensures in
    all-fixed c.args.block.now c.args.table.now
    (λ i h k. ⊎_elim (λ e. rw e past) (λ ne. let l : i < c.loop-row.row = omega arith in c.loop-row.invariant i h l) (same_or i c.loop-row.row))
