-- What the answers of `settle::settle` say of an accepted sheet. Assumes nothing.
use mathlib.Core.Path.{◌≡◌, refl, sym, ap, ◌∙◌}
use mathlib.Core.Bool.{Bool, true, false}
use mathlib.Core.List.{List}
use mathlib.Core.Option.{Option, none, some}
use Prim.Native.Nat.{ℕ}
use lib.IntN.{ℤ}
use Rattle.std.specs.Prelude.{Result, Ok}
use Rattle.std.specs.Result.{result_unwrap_or}
use Rattle.integers.specs.Below.{value_or}
use Rattle.integers.proofs.Booleans.{clash}
use Rattle.sheet.specs.Refusal.{refusal}
use Rattle.sheet.specs.Settle.{settle_of}
use Rattle.sheet.specs.Answer.{is_found, table_after}
use Rattle.sheet.specs.declared.Refusal.{Refusal}
use Rattle.sheet.proofs.Answer.{answered}
use Rattle.sheet.proofs.Inside.{inside-trans}
use Rattle.sheet.proofs.Places.{settle-accepted, settle-inside}
use Rattle.settle.specs.Demand.{Promise}
use Rattle.splits.specs.Splits.{Part}
use Rattle.layout.specs.Search.{SettledTo}

-- whether a settled table was found, and the table left, where the definition finds o
found-by : (block t : List ℤ) {r : Bool} {v : List ℤ} (o : Option (List ℤ)) → settle_of block t ≡ o → r ≡ is_found o → v ≡ table_after 0 t o
    → SettledTo block t r v
unfolding is_found table_after value_or
found-by block t none e found left = record { yes = λ k. clash k found; no = λ k. e }
found-by block t (some u) e found left = record { yes = λ k. e ∙ ap some (sym left); no = λ k. clash found k }

pub settled-to : (block t : List ℤ) → refusal block t ≡ 0 → {finding : Result Bool Refusal} {r : Bool} {v : List ℤ} → Promise block t finding v
    → r ≡ result_unwrap_or finding false → SettledTo block t r v
settled-to block t accepted p e =
    found-by block t (settle_of block t) refl
    (e ∙ ap (λ (q : Result Bool Refusal). result_unwrap_or q false) (p.0 ∙ answered _ accepted))
    (p.1 ∙ ap (λ (g : ℕ). table_after g t (settle_of block t)) accepted)

-- ---- what settling leaves is a part of the table that keeps every placement
module _ (block t : List ℤ) (accepted : refusal block t ≡ 0) (v : List ℤ) (e : settle_of block t ≡ some v) where
  pub settled-part : Part block t v
  settled-part =
      let inside = settle-inside block t accepted v e in
      record {
        accepted = settle-accepted block t accepted v e;
        inside = inside;
        places = λ p x. record { inside = inside-trans block x.inside inside; is_fixed = x.is_fixed; is_good = x.is_good };
      }
