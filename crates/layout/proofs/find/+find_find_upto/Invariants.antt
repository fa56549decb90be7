-- The measures and the loop of `layout::find::find` and `layout::find::find_upto`, which call each other. The search keeps every placement of
-- the table that was lent. A search in a part has a smaller extent; `find_upto` is given what `find` has settled, so the measures are twice the
-- extent, and one more for `find`. Assumes nothing.
use Prim.Native.Nat.{◌+◌, ◌*◌}
use Rattle.std.specs.Prelude.{MatchOption, ⊤}
use Rattle.integers.specs.Below.{UpTo}
use Rattle.sheet.specs.Layout.{layout_rows_most}
use Rattle.sheet.specs.Settle.{extent}
use Rattle.layout.proofs.Searches.{Keeps}
use Rattle.layout.proofs.find.+find_find_upto.Given as goal

abbrev pub decreases-find : goal.decreases-find
decreases-find l = 2 * extent l.block.now l.table.now + 1

abbrev pub decreases-find_upto : goal.decreases-find_upto
decreases-find_upto l = 2 * extent l.block.now l.table.now

abbrev pub invariant-find-loop-split_row : goal.invariant-find-loop-split_row
invariant-find-loop-split_row l = Keeps l.block l.initial.table l.table × MatchOption l.split_row ⊤ (UpTo layout_rows_most)

abbrev pub decreases-find-loop-split_row : goal.decreases-find-loop-split_row
decreases-find-loop-split_row l = extent l.block l.table
