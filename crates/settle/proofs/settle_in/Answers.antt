-- `settle::settle_in` meets its contract: the copy is settled, and written back where a table is found. Assumes nothing.
use mathlib.Core.Path.{◌≡◌, sym, ◌∙◌, subst}
use mathlib.Core.Option.{none, some}
use lib.IntN.{pos}
use lib.ListN.{length, replicate}
use lib.Seq.{length-take-le}
use Rattle.sheet.specs.Layout.{table_most}
use Rattle.sheet.specs.Settle.{settle_of}
use Rattle.sheet.proofs.Accepted.{table-short}
use Rattle.settle.proofs.Answers.{left-none, left-some}
use Rattle.settle.proofs.settle_in.Goals as goal

pub slice_bounds-words-end : goal.slice_bounds-words-end
slice_bounds-words-end c = table-short c.requires.0.head c.requires.1.whole

pub slice_bounds-work-end : goal.slice_bounds-work-end
slice_bounds-work-end c = sym (length-take-le _ (replicate table_most (pos 0)) (table-short c.requires.0.head c.requires.1.whole))

pub copy_from_slice-requires : goal.copy_from_slice-requires
copy_from_slice-requires c = length-take-le _ (replicate table_most (pos 0)) (table-short c.requires.0.head c.requires.1.whole)

pub returns-then-found : goal.returns-then-found
returns-then-found c =
    let a = c.args in
    let found = left-some a.table.now (rw c.copy_from_slice.ensures.after at (c.settle_rows-found.ensures.yes c.if-found.true)) in
    (c.if-found.true ∙ found.0, c.copy_from_slice-then-found.ensures.after ∙ found.1)

pub returns-else-found : goal.returns-else-found
returns-else-found c =
    let found = left-none c.args.table.now (rw c.copy_from_slice.ensures.after at (c.settle_rows-found.ensures.no c.if-found.false)) in
    (c.if-found.false ∙ found.0, found.1)
