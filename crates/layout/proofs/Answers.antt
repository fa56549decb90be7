-- The answers of this layer as the code gives them, and what it leans on where nothing is refused. Assumes nothing.
use mathlib.Core.Path.{◌≡◌, refl, sym, ap, ◌∙◌, subst}
use mathlib.Core.Bool.{Bool, true, false}
use mathlib.Core.List.{List}
use mathlib.Core.Option.{Option, none, some}
use borrow.Author.Tests.{ltb-false}
use lib.IntN.{ℤ}
use Rattle.std.specs.Prelude.{Ok}
use Rattle.sheet.specs.Layout.{layout_rows_most}
use Rattle.sheet.specs.Refusal.{◌when◌, too_many_rows, refusal, refusal_layout}
use Rattle.sheet.specs.FirstLayout.{FirstLayout}
use Rattle.sheet.proofs.Accepted.{when-zero, else-zero}
use Rattle.sheet.proofs.Answer.{answered}
use Rattle.sheet.proofs.FirstLayout.{first-unique}
use Rattle.settle.proofs.Answers.{left-none, left-some, left_passed}
use Rattle.layout.specs.Search.{Small}
use Rattle.layout.specs.First.{FirstBy, Promise}

-- ---- nothing is refused
module _ (block : List ℤ) (t : List ℤ) (passed : refusal_layout block t ≡ 0) where
  pub is-small : Small block t
  unfolding refusal_layout too_many_rows
  is-small =
      let e = else-zero (refusal block t) (16 when too_many_rows block t) passed in
      record { accepted = e.0; few = ltb-false layout_rows_most _ (when-zero 15 (too_many_rows block t) e.1) }

  pub answer-none : FirstLayout block t none → Promise block t (Ok false) t
  answer-none f =
      let a = left-none t (first-unique block t is-small.accepted none f) in
      (ap Ok a.0 ∙ sym (answered _ passed), left_passed _ _ passed a.1)

  pub answer-some : {v : List ℤ} → FirstLayout block t (some v) → Promise block t (Ok true) v
  answer-some {v} f =
      let a = left-some t (first-unique block t is-small.accepted (some v) f) in
      (ap Ok a.0 ∙ sym (answered _ passed), left_passed _ _ passed a.1)

  pub answer-by : (r : Bool) {left : List ℤ} → FirstBy block t r left → Promise block t (Ok r) left
  answer-by true f = answer-some (f.yes refl)
  answer-by false f = subst (Promise block t (Ok false)) (sym (f.same refl)) (answer-none (f.no refl))
