-- `settle::next_row` meets its contract: none of the rows from at on is to be narrowed, and none before. Assumes nothing.
use mathlib.Core.Path.{◌≡◌, sym, subst}
use mathlib.Core.Logic.{⊎_elim}
use mathlib.Core.Bool.{Bool}
use mathlib.Core.List.{List}
use Prim.Native.Nat.{ℕ, ◌≤◌}
use native.Mathlib.Omega.{arith}
use Rattle.std.specs.Prelude.{Option, Some, None, MatchOption}
use Rattle.std.proofs.Common.{rules}
use Rattle.integers.proofs.Below.{below_or}
use Rattle.settle.specs.Todo.{FirstDue, Next}
use Rattle.settle.proofs.next_row.Goals as goal

module _ (due : List Bool) (n at : ℕ) (within : at ≤ n) where
  -- from the start on, where there is none from at on
  from-start : (r : Option ℕ) → FirstDue due at n None → FirstDue due 0 at r → Next due n r
  from-start None past before = λ m h. ⊎_elim (λ k. before m (omega arith) k) (λ k. past m k h) (below_or m at)
  from-start (Some i) past before = (omega arith, before.2)

  joined : (q r : Option ℕ) {E : Type 0} → FirstDue due at n q → MatchOption q E (λ x. r ≡ Some x) → (E → FirstDue due 0 at r) → Next due n r
  joined None r past found before = from-start r past (before found)
  joined (Some i) r here found before = subst (Next due n) (sym found) (here.1, here.2)

pub returns : goal.returns
returns c = joined _ _ _ c.requires.1 _ _ c.first_due.ensures c.or_else.ensures (λ x. search rules)
