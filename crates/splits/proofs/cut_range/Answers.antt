-- `splits::cut_range` meets its contract: both ends of the range are written anew. Assumes nothing.
use mathlib.Core.Path.{◌≡◌, ap₂, ◌∙◌}
use Prim.Native.Nat.{◌+◌, ◌*◌}
use native.Mathlib.Omega.{arith}
use lib.IntN.{ℤ}
use lib.ListN.{set, length-set}
use mir.Facts.{to_z-of_z}
use mir.Syntax.{w64}
use mir.Val.{to_z, of_z}
use Rattle.points.proofs.Sums.{max_is, min_is}
use Rattle.integers.specs.Integer.{max_z, min_z}
use Rattle.sheet.specs.Layout.{low, high}
use Rattle.words.proofs.Ends.{row_ends}
use Rattle.splits.proofs.Writes.{set-range}
use Rattle.splits.proofs.cut_range.Goals as goal

pub bounds-table-i-2 : goal.bounds-table-i-2
bounds-table-i-2 c = simp length-set (omega (arith, row_ends c.requires.0, c.requires.1))

pub returns : goal.returns
returns c =
    let a = c.args in
    let lo : to_z w64 (of_z w64 c.max-low.result) ≡ max_z (low a.block.now a.table.now a.i.number a.d) a.from = grind (arith, to_z-of_z, max_is) in
    let hi : to_z w64 (of_z w64 c.min-high.result) ≡ min_z (high a.block.now a.table.now a.i.number a.d) a.to = grind (arith, to_z-of_z, min_is) in
    ap₂ (λ (y z : ℤ). set (set a.table.now (a.i.at + 1 + 2 * a.d) y) (a.i.at + 2 + 2 * a.d) z) lo hi
    ∙ set-range c.requires.0 c.requires.1 a.from a.to
