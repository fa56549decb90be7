-- MISSION DEMAND 2 of the code: on every sheet that is not refused `placement::check_placement` says 'good' exactly when the catalogue's
-- non-overlap and every room rule hold (`promise-demand-2`). Assumes nothing.
use mathlib.Core.Path.{◌≡◌, sym, ap, ◌∙◌}
use mathlib.Core.Logic.{◌↔◌}
use mathlib.Core.Bool.{Bool, true, false}
use mathlib.Core.List.{List}
use lib.IntN.{ℤ}
use Rattle.std.specs.Prelude.{Result, Ok, Err}
use Rattle.sheet.specs.Placement.{good, catalogue_good}
use Rattle.sheet.specs.Refusal.{refusal_placement}
use Rattle.sheet.specs.Answer.{answer}
use Rattle.sheet.specs.declared.Refusal.{Refusal}
use Rattle.sheet.proofs.Catalogue.{demand-2}
use Rattle.sheet.proofs.Answer.{answered}

-- what was found
abbrev verdict : Result Bool Refusal → Bool
verdict (Ok b) = b
verdict (Err g) = false

pub promise-demand-2 : (block : List ℤ) (t : List ℤ) (finding : Result Bool Refusal) → refusal_placement block t ≡ 0
    → finding ≡ answer (refusal_placement block t) (good block t) → (finding ≡ Ok true) ↔ (catalogue_good block t ≡ true)
promise-demand-2 block t finding e p =
    let found : finding ≡ Ok (good block t) = p ∙ answered (good block t) e in
    (λ q. sym (demand-2 block t e) ∙ ap verdict (sym found ∙ q), λ q. found ∙ ap Ok (demand-2 block t e ∙ q))
