-- `fill::cells::mark_rows` meets its contract: the cells of the rule's rows up to m are marked. Assumes nothing.
use mathlib.Core.Path.{sym, ◌∙◌, subst}
use Prim.Native.Nat.{◌+◌, ◌≤◌}
use native.Mathlib.Omega.{arith}
use Rattle.integers.specs.Below.{UpTo}
use Rattle.integers.proofs.Below.{up_next}
use Rattle.sheet.specs.Layout.{rows}
use Rattle.sheet.specs.Fill.{room_cells}
use Rattle.fill.specs.Room.{Adds}
use Rattle.fill.proofs.Covers.{rows_to, rows-first, rows_named, rows_other, rows_all}
use Rattle.fill.proofs.cells.mark_rows.Goals as goal
use Rattle.fill.proofs.cells.mark_rows.Goals.{then-names_row, else-names_row}

pub widths_of-widths-requires : goal.widths_of-widths-requires
widths_of-widths-requires c = c.requires.0.room

pub loop-m-init : goal.loop-m-init
loop-m-init c = rows-first _ _ _

-- the row at hand is one of the table's
row_in : (c : goal.In-loop-m) → UpTo (rows c.args.block.now c.args.table.now) (c.loop-m.m + 1)
row_in c = up_next (omega arith)

few-rows : (c : goal.In-loop-m) → c.loop-m.m + 1 ≤ 32
few-rows c = omega (arith, (row_in c).upto, c.requires.0.table.whole.few_rows)

pub overflow_add-m : goal.overflow_add-m
overflow_add-m c = omega (arith, few-rows c)

pub names_row-requires : goal.names_row-requires
names_row-requires c =
    let w = c.requires.0.room in
    (w.rule, w.accepted.row_sets _ w.rule.below, record { from = (row_in c).from; upto = few-rows c })

pub overflow_add-m-then-names_row : goal.overflow_add-m-then-names_row
overflow_add-m-then-names_row c = omega (arith, few-rows c.before.before)

pub row_place-i-requires : goal.row_place-i-requires
row_place-i-requires c =
    let l = c.before.before in
    let w = l.requires.0 in
    (w.room.accepted.head, w.table.whole, row_in l)

pub mark_row-requires : goal.mark_row-requires
mark_row-requires c =
    let p = c.row_place-i.ensures in (
      record { counting = c.requires.0; row = p.0; named = rw p.1 (sym c.names_row.ensures ∙ c.if-names_row.true) },
      c.requires.1,
      c.widths_of-widths.ensures,
    )

pub loop-m-preserved : goal.loop-m-preserved
loop-m-preserved c =
    let a = c.args in
    let block = a.block.now in
    let t = a.table.now in
    let n = room_cells block a.r.number in
    let m = c.loop-m.m in
    let old = a.marks.now in
    let named = sym c.names_row.ensures in
    elim c.if-names_row.branch [
      | then-names_row x ↦ subst (Adds n (rows_to block t a.r.number (m + 1)) old) (sym x.marks-is)
          (rows_named block t a.r.number m x.row_place-i.ensures.1 (named ∙ x.if-names_row.true) c.loop-m.invariant x.mark_row.ensures)
      | else-names_row x ↦ subst (Adds n (rows_to block t a.r.number (m + 1)) old) (sym x.marks-is)
          (rows_other block t a.r.number m (named ∙ x.if-names_row.false) c.loop-m.invariant)
    ]

pub returns : goal.returns
returns c = rows_all _ _ _ (omega arith) c.loop-m.invariant
