-- `accept::table::not_fixed` meets its contract: each row is tested. Assumes nothing.
use mathlib.Core.Path.{ap}
use mathlib.Core.Bool.{not}
use Prim.Native.Nat.{suc}
use Rattle.std.proofs.Common.{rules, tests}
use Rattle.integers.proofs.Scans.{all_in_range}
use Rattle.sheet.specs.Placement.{row_fixed, fixed}
use Rattle.sheet.specs.Layout.{rows}
use Rattle.sheet.specs.Refusal.{not_fixed}
use Rattle.accept.proofs.table.not_fixed.Goals as goal

pub returns : goal.returns
unfolding not_fixed fixed
returns c =
    let a = c.args in
    ap not (all_in_range (rows a.block.now a.table.now) (λ m. row_fixed a.block.now a.table.now (suc m)) _ _ _ c.all.ensures.ran (search rules)
    (λ x b q k. search (rules, tests)))
