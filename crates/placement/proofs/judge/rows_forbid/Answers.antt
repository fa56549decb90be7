-- `judge::rows_forbid` meets its contract: the rows before the row are asked one after another. Assumes nothing.
use Prim.Native.Nat.{suc, ◌-◌}
use Rattle.std.proofs.Common.{rules, tests}
use Rattle.integers.proofs.Scans.{any_in_range}
use Rattle.placement.specs.Before.{named_forbids, before_forbids}
use Rattle.placement.proofs.judge.rows_forbid.Goals as goal

pub returns : goal.returns
unfolding before_forbids
returns c =
    let a = c.args in
    any_in_range (a.i.number - 1) (λ m. named_forbids a.block.now a.table.now a.r.number a.i.number a.s a.p (suc m))
    _ _ _ c.any.ensures.ran (search rules) (λ x b q k. search (rules, tests))
