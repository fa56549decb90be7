-- What narrowing a row came to, by what was found: no place is left, every word stayed, or some word changed. Assumes nothing.
use Rattle.std.specs.Prelude.{cond, List, ℤ}
use Rattle.std.proofs.Math.Option.{Option, none, some}
use Rattle.integers.specs.Words.{same_words}
use Rattle.narrow.specs.declared.Step.{Step}
use Rattle.narrow.specs.declared.Step.TheVariants as S

unfoldable pub step_answer : List ℤ → Option (List ℤ) → Step
step_answer t none = S.NoPlace
step_answer t (some v) = cond (same_words v t) S.Still S.Moved
