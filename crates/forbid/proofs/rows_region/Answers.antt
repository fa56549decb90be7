-- `forbid::rows_region` meets its contract: the rows are asked one after another. Assumes nothing.
use borrow.Author.Rules.{rules}
use Prim.Native.Nat.{suc}
use Rattle.sheet.specs.Allowed.{row_forbids}
use Rattle.forbid.specs.Region.{rows_forbid}
use Rattle.forbid.proofs.Finds.{region_below}
use Rattle.forbid.proofs.rows_region.Goals as goal

pub returns : goal.returns
unfolding rows_forbid
returns c =
    let a = c.args in
    region_below _ (λ m q. row_forbids a.block.now a.table.now a.r.number q a.i a.s (suc m)) (λ x y q k. search rules) _ c.rows_of.ensures
    (search rules) c.find_map.ensures.runs
