-- `settle::touched_if` meets its contract: a rule that does not count says nothing here, and one of another kind or that does not name row i
-- spares every row. Assumes nothing.
use mathlib.Core.Path.{◌≡◌, subst}
use Prim.Native.Nat.{ℕ}
use Rattle.settle.specs.Todo.{Spared, Touched}
use Rattle.settle.proofs.Turns.{touched-so}
use Rattle.settle.proofs.touched_if.Goals as goal

pub returns-then-is_non_overlap_of : goal.returns-then-is_non_overlap_of
returns-then-is_non_overlap_of c =
    let a = c.args in
    touched-so
    (subst (λ (r : ℕ). Touched a.n a.due.now (Spared a.block.now a.table.now a.i.number r) c.touched_by.new.due)
    c.rule_place-rule.ensures.1 c.touched_by.ensures) (λ m h spared k. spared)
