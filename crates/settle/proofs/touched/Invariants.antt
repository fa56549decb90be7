-- `settle::touched` meets its contract: after r rules a row that is not to be narrowed is spared by each of them that counts, and no rule past
-- the last that counts is needed. Assumes nothing.
use mathlib.Core.Path.{◌≡◌}
use mathlib.Core.Bool.{true}
use Prim.Native.Nat.{ℕ, ◌<◌}
use Rattle.integers.specs.Bits.{bit}
use Rattle.integers.specs.Words.{word}
use Rattle.outline.specs.Places.{rules_at}
use Rattle.settle.specs.Todo.{Spared, Touched}
use Rattle.settle.proofs.touched.Given as goal

abbrev pub invariant-loop-r : goal.invariant-loop-r
invariant-loop-r l =
    Touched l.n l.initial.due (λ m. (q : ℕ) → q < l.r → bit (word l.outline rules_at) q ≡ true → Spared l.block l.table l.i.number q m) l.due
