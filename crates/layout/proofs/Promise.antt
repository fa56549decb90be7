-- THE FIRST WHOLE LAYOUT of the code: what `layout::first_layout` promises is the request, on every sheet that is not refused
-- (`promise-request`), and nothing else meets the request (`request-promise`): the finding and the table left are the same, whatever the search
-- tries first. Assumes nothing.
use mathlib.Core.Path.{◌≡◌, sym, ◌∙◌, subst}
use mathlib.Core.Bool.{Bool, true, false}
use mathlib.Core.List.{List}
use mathlib.Core.Option.{Option, none, some}
use lib.IntN.{ℤ}
use Rattle.std.specs.Prelude.{Result, Ok}
use Rattle.sheet.specs.Refusal.{refusal_layout}
use Rattle.sheet.specs.FirstLayout.{FirstLayout, nothing, first, first_layout_of}
use Rattle.sheet.specs.declared.Refusal.{Refusal}
use Rattle.sheet.proofs.FirstLayout.{first_finds}
use Rattle.layout.specs.First.{Written, Request, Promise}
use Rattle.layout.proofs.Answers.{is-small, answer-none, answer-some}

placed-not-nothing : ◌≡◌ {A = Result Bool Refusal} (Ok true) (Ok false) → ⊥
placed-not-nothing e = cc

module _ (block : List ℤ) (given : List ℤ) (passed : refusal_layout block given ≡ 0) (finding : Result Bool Refusal) (left : List ℤ) where
  finds : FirstLayout block given (first_layout_of block given)
  finds = first_finds block given (is-small block given passed).accepted

  pub promise-request : Promise block given finding left → Request block given finding left
  promise-request p = by (first_layout_of block given) finds
    where
      by : (o : Option (List ℤ)) → FirstLayout block given o → Request block given finding left
      by none (nothing f) =
          let a = answer-none block given passed (nothing f) in
          let q : finding ≡ Ok false = p.0 ∙ sym a.0 in
          record { none_inside = (λ k. f, λ k. q); unchanged = λ k. p.1 ∙ sym a.1; otherwise = λ k. absurd (k q) }
      by (some v) (first x f) =
          let a = answer-some block given passed (first x f) in
          let q : finding ≡ Ok true = p.0 ∙ sym a.0 in
          let written : Written block given left = subst (Written block given) (a.1 ∙ sym p.1) (record { places = x; first = f }) in
          record {
            none_inside = (λ k. absurd (placed-not-nothing (sym q ∙ k)), λ k. absurd (k v x));
            unchanged = λ k. absurd (placed-not-nothing (sym q ∙ k));
            otherwise = λ k. (q, written);
          }

  pub request-promise : Request block given finding left → Promise block given finding left
  request-promise d = by (first_layout_of block given) finds
    where
      by : (o : Option (List ℤ)) → FirstLayout block given o → Promise block given finding left
      by none (nothing f) =
          let a = answer-none block given passed (nothing f) in
          let q = d.none_inside.1 f in
          (q ∙ a.0, d.unchanged q ∙ a.1)
      by (some v) (first x f) =
          let w = d.otherwise (λ k. d.none_inside.0 k v x) in
          let a = answer-some block given passed (first w.1.places w.1.first) in
          (w.0 ∙ a.0, a.1)
