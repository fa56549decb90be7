-- `accept::table::bad_table_length` meets its contract: a quotient times its divisor does not exceed the length. Assumes nothing.
use native.Mathlib.Omega.{arith}
use borrow.Author.Tests.{eq-eqb, ne_eqb, lt-ltb, lt-leb, le-leb}
use Rattle.sheet.specs.Refusal.{bad_table_length}
use Rattle.accept.proofs.Tests.{rows_fit, ltb-not-leb}
use Rattle.accept.proofs.table.bad_table_length.Goals as goal

pub overflow_mul-n : goal.overflow_mul-n
overflow_mul-n c =
    let a = c.before.before.args in
    rw (c.rows_of-n.ensures, c.before.row_len-w.ensures) (omega (arith, rows_fit a.block.now a.table.now))

pub returns-then-table-n : goal.returns-then-table-n
unfolding bad_table_length
returns-then-table-n c = rw (← c.before.rows_of-n.ensures, ← c.before.before.row_len-w.ensures, ne_eqb _ _ c.if-table-n.true)

pub returns-then-n-lt1 : goal.returns-then-n-lt1
unfolding bad_table_length
returns-then-n-lt1 c =
    let n = c.before.before.rows_of-n in
    rw (← n.ensures, ← c.before.before.before.row_len-w.ensures, eq-eqb _ _ c.before.if-table-n.false, lt-leb 1 _ c.if-n-lt1.true)
    (lt-ltb _ 1 c.if-n-lt1.true)

pub returns-else-n-lt1 : goal.returns-else-n-lt1
unfolding bad_table_length
returns-else-n-lt1 c =
    let n = c.before.before.rows_of-n in
    rw (← n.ensures, ← c.before.before.before.row_len-w.ensures, eq-eqb _ _ c.before.if-table-n.false, le-leb 1 _ c.if-n-lt1.false)
    (ltb-not-leb 32 n.result)
