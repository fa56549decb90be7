-- The answers, by what narrowing found: those of `narrow_row` (`step-none`, `step-some`), and whether a step leaves a place (`is_place`).
-- Assumes nothing.
use mathlib.Core.Path.{◌≡◌, refl, sym, ap, ◌∙◌}
use mathlib.Core.Bool.{Bool, true, false, not, cond}
use mathlib.Core.List.{List}
use mathlib.Core.Option.{Option, none, some}
use lib.IntN.{ℤ}
use Rattle.integers.specs.Below.{value_or}
use Rattle.integers.specs.Words.{same_words}
use Rattle.sheet.specs.Answer.{is_found}
use Rattle.narrow.specs.declared.Step.{Step}
use Rattle.narrow.specs.declared.Step.TheVariants as S
use Rattle.narrow.specs.contracts.Step.{the_type}
use denote.Enum.Bare.{sameb}
use Rattle.narrow.specs.Steps.{step_answer}

module _ (t : List ℤ) {o : Option (List ℤ)} where
  pub step-none : o ≡ none → (S.NoPlace ≡ step_answer t o) × (t ≡ value_or t o)
  unfolding step_answer value_or
  step-none e = (ap (step_answer t) (sym e), ap (value_or t) (sym e))

  pub step-some : {v u : List ℤ} {b : Bool} → o ≡ some v → u ≡ v → same_words u t ≡ b
      → (cond b S.Still S.Moved ≡ step_answer t o) × (u ≡ value_or t o)
  unfolding step_answer value_or
  step-some e q d = (
    ap (λ (b : Bool). cond b S.Still S.Moved) (sym d ∙ ap (λ (x : List ℤ). same_words x t) q) ∙ ap (step_answer t) (sym e),
    q ∙ ap (value_or t) (sym e),
  )

-- the code's test of a step
another : Step → Bool
another x = not (sameb the_type x S.NoPlace)

still-or-moved : (b : Bool) → another (cond b S.Still S.Moved) ≡ true
unfolding another
still-or-moved true = refl
still-or-moved false = refl

pub is_place : (t : List ℤ) (o : Option (List ℤ)) {x : Step} → x ≡ step_answer t o → not (sameb the_type x S.NoPlace) ≡ is_found o
unfolding another step_answer is_found
is_place t none e = ap another e
is_place t (some v) e = ap another e ∙ still-or-moved (same_words v t)
