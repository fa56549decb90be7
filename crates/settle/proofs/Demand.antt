-- MISSION DEMAND 3 of the code: what `settle::settle` promises is demand 3, on every accepted sheet (`promise-demand-3`), and nothing else
-- meets demand 3 (`demand-3-promise`): the finding and the table left are the same in whatever order the rows are narrowed. A sheet is
-- any words, so boxes, rules and rows stand in whatever order. Assumes nothing.
use mathlib.Core.Path.{◌≡◌, refl, sym, ap, ◌∙◌, subst}
use mathlib.Core.Bool.{Bool, true, false}
use mathlib.Core.List.{List}
use mathlib.Core.Option.{Option, none, some}
use Prim.Native.Nat.{ℕ}
use lib.IntN.{ℤ}
use Rattle.std.specs.Prelude.{Result, Ok}
use Rattle.sheet.specs.Refusal.{refusal}
use Rattle.sheet.specs.Settle.{Settles, settle_of}
use Rattle.sheet.specs.Answer.{is_found, table_after}
use Rattle.sheet.specs.declared.Refusal.{Refusal}
use Rattle.sheet.proofs.Answer.{answered}
use Rattle.sheet.proofs.Demand3.{demand-3, demand-3-unique}
use Rattle.settle.specs.Demand.{Left, Demand3, Promise}
use Rattle.settle.proofs.Answers.{left-none, left-some}

settled-not-none : ◌≡◌ {A = Result Bool Refusal} (Ok true) (Ok false) → ⊥
settled-not-none e = cc

module _ (block : List ℤ) (given : List ℤ) (accepted : refusal block given ≡ 0) (finding : Result Bool Refusal) (left : List ℤ) where
  -- the promise, where nothing is refused
  abbrev Finds : Type 0
  Finds = (finding ≡ Ok (is_found (settle_of block given))) × (left ≡ table_after 0 given (settle_of block given))

  finds : Promise block given finding left → Finds
  finds p = (p.0 ∙ answered _ accepted, p.1 ∙ ap (λ (g : ℕ). table_after g given (settle_of block given)) accepted)

  promised : Finds → Promise block given finding left
  promised f = (f.0 ∙ sym (answered _ accepted), f.1 ∙ ap (λ (g : ℕ). table_after g given (settle_of block given)) (sym accepted))

  pub promise-demand-3 : Promise block given finding left → Demand3 block given finding left
  promise-demand-3 p = by-finding (settle_of block given) refl (demand-3 block given accepted)
    where
      by-finding : (o : Option (List ℤ)) → settle_of block given ≡ o → Settles block given o → Demand3 block given finding left
      by-finding none e h =
          let a = left-none given e in
          let q : finding ≡ Ok false = (finds p).0 ∙ ap Ok (sym a.0) in
          record { no_layout = (λ k. h, λ k. q); unchanged = λ k. (finds p).1 ∙ sym a.1; otherwise = λ f. absurd (f q) }
      by-finding (some v) e h =
          let a = left-some given e in
          let q : finding ≡ Ok true = (finds p).0 ∙ ap Ok (sym a.0) in
          let same : v ≡ left = a.1 ∙ sym (finds p).1 in
          let l : Left block given left =
          subst (Left block given) same (record { settled = h.settled; inside = h.within; holds = h.holds }) in
          record {
            no_layout = (λ k. absurd (settled-not-none (sym q ∙ k)), λ k. absurd (k left l.settled l.inside));
            unchanged = λ k. absurd (settled-not-none (sym q ∙ k));
            otherwise = λ f. (q, l);
          }

  pub demand-3-promise : Demand3 block given finding left → Promise block given finding left
  demand-3-promise d = promised (by-finding (settle_of block given) refl (demand-3 block given accepted))
    where
      by-finding : (o : Option (List ℤ)) → settle_of block given ≡ o → Settles block given o → Finds
      by-finding none e h =
          let a = left-none given e in
          let q = d.no_layout.1 h in
          (q ∙ ap Ok a.0, d.unchanged q ∙ a.1)
      by-finding (some v) e h =
          let w = d.otherwise (λ k. d.no_layout.0 k v h.settled h.within) in
          let l = w.1 in
          let g = demand-3-unique block given accepted (some left) (record { settled = l.settled; within = l.inside; holds = l.holds }) in
          let a = left-some given g in
          (w.0 ∙ ap Ok a.0, a.1)
