-- `accept::table::bad_row` meets its contract: each row is tested. Assumes nothing.
use mathlib.Core.Path.{ap}
use mathlib.Core.Bool.{not}
use Prim.Native.Nat.{suc}
use Rattle.std.proofs.Common.{rules, tests}
use Rattle.integers.proofs.Scans.{all_in_range}
use Rattle.sheet.specs.Layout.{rows, valid_row}
use Rattle.sheet.specs.Refusal.{bad_row}
use Rattle.accept.proofs.table.bad_row.Goals as goal

pub returns : goal.returns
unfolding bad_row
returns c =
    let a = c.args in
    ap not (all_in_range (rows a.block.now a.table.now) (λ m. valid_row a.block.now a.table.now (suc m)) _ _ _ c.all.ensures.ran (search rules)
    (λ x b q k. search (rules, tests)))
