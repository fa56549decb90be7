-- `grid::mark_line` meets its contract: the line's cells are filled with marks. Assumes nothing.
use mathlib.Core.Path.{◌≡◌}
use mathlib.Core.Bool.{true}
use native.Mathlib.Omega.{arith}
use borrow.Author.Rules.{rules}
use lib.ListN.{replicate}
use Rattle.grid.proofs.Marks.{line-filled}
use Rattle.grid.proofs.mark_line.Goals as goal

pub returns : goal.returns
returns c =
    let a = c.args in
    let e : c.fill.new.self ≡ replicate a.n true = search (rules, c.fill.ensures.after) in
    rw e (line-filled a.marks.now a.start a.n (omega arith) (omega arith))
