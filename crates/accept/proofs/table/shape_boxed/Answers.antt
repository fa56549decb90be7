-- `accept::table::shape_boxed` meets its contract: the flags tell of the shapes that the row has. Assumes nothing.
use mathlib.Core.Path.{sym, ◌∙◌}
use native.Mathlib.Omega.{arith}
use Rattle.integers.proofs.Booleans.{implies-in, implies-out}
use Rattle.accept.proofs.Turns.{fails_by, passes-by}
use Rattle.accept.proofs.table.shape_boxed.Goals as goal

pub returns-then-not-has_shape : goal.returns-then-not-has_shape
returns-then-not-has_shape c = c.if-not-has_shape.true-raw ∙ sym (implies-out _ (fails_by c.before.has_shape.ensures c.if-not-has_shape.true-raw))

pub returns-else-not-has_shape : goal.returns-else-not-has_shape
returns-else-not-has_shape c =
    let s = c.before.before in
    s.requires.0.flags_of.each s.args.s (omega arith) ∙ sym (implies-in _ (passes-by c.before.has_shape.ensures c.if-not-has_shape.false-raw))
