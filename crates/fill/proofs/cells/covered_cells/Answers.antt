-- `fill::cells::covered_cells` meets its contract: of cells that were not marked those are that the rule's rows cover. Assumes nothing.
use mathlib.Core.Bool.{false}
use native.Mathlib.Omega.{arith}
use lib.ListN.{get_or-replicate}
use Rattle.fill.proofs.Covers.{marks-counted}
use Rattle.fill.proofs.cells.covered_cells.Goals as goal

pub mark_rows-requires : goal.mark_rows-requires
mark_rows-requires c = let p = c.requires in (p.0, p.1)

pub count-requires : goal.count-requires
count-requires c = omega (arith, c.requires.2, c.requires.0.few_cells)

pub returns : goal.returns
returns c =
    let w = c.requires.0 in
    marks-counted _ _ _ w.some_cells c.requires.2 (λ m l. get_or-replicate 4096 m false false (omega (arith, w.few_cells, l)))
    c.mark_rows.ensures c.count.ensures
