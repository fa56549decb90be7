-- `narrow_row` meets its contract: what is kept of every shape is written. Assumes nothing.
use mathlib.Core.Path.{sym, ◌∙◌}
use native.Mathlib.Omega.{arith}
use Rattle.integers.proofs.Booleans.{not-true, not-false}
use Rattle.narrow.proofs.Complete.{narrow-none, narrow-some}
use Rattle.narrow.proofs.KeptTo.{ends-start}
use Rattle.narrow.proofs.Answers.{step-none, step-some}
use borrow.Author.Rules.{rules}
use Rattle.narrow.proofs.narrow_row.Goals as goal

pub kept_shapes-shapes-requires : goal.kept_shapes-shapes-requires
kept_shapes-shapes-requires c =
    record {
      on = c.requires;
      below = omega arith;
      long = search rules;
      ends_of = ends-start c.args.block.now c.args.table.now c.args.i.number c.requires.accepted.head.few_axes c.ends_at-ends.ensures;
    }

pub returns-then-shapes-eq0 : goal.returns-then-shapes-eq0
returns-then-shapes-eq0 c =
    step-none c.args.table.now (narrow-none c.args.block.now c.args.table.now c.requires.table c.args.i.number c.requires.row.from
    c.requires.row.upto (sym c.kept_shapes-shapes.ensures.kept ∙ c.if-shapes-eq0.true))

pub returns-then-write_row : goal.returns-then-write_row
returns-then-write_row c =
    let some = narrow-some c.args.block.now c.args.table.now c.requires.table c.args.i.number c.requires.row.from c.requires.row.upto
    c.kept_shapes-shapes.result c.kept_shapes-shapes.new.ends (omega (arith, c.if-shapes-eq0.false)) c.kept_shapes-shapes.ensures in
    step-some c.args.table.now some c.write_row.ensures.0 (not-true (sym c.write_row.ensures.1 ∙ c.if-write_row.true))

pub returns-else-write_row : goal.returns-else-write_row
returns-else-write_row c =
    let some = narrow-some c.args.block.now c.args.table.now c.requires.table c.args.i.number c.requires.row.from c.requires.row.upto
    c.kept_shapes-shapes.result c.kept_shapes-shapes.new.ends (omega (arith, c.if-shapes-eq0.false)) c.kept_shapes-shapes.ensures in
    step-some c.args.table.now some c.write_row.ensures.0 (not-false (sym c.write_row.ensures.1 ∙ c.if-write_row.false))
