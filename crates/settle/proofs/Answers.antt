-- The answers of settling as the code gives them. Assumes nothing.
use mathlib.Core.Path.{◌≡◌, refl, sym, ap, ◌∙◌}
use mathlib.Core.Bool.{true, false}
use mathlib.Core.List.{List}
use mathlib.Core.Option.{Option, none, some}
use Prim.Native.Nat.{ℕ, zero, suc}
use lib.IntN.{ℤ}
use Rattle.std.specs.Prelude.{Result, Err, is_ok}
use Rattle.integers.specs.Below.{value_or}
use Rattle.integers.proofs.Booleans.{clash}
use Rattle.sheet.specs.Answer.{answer, is_found, table_after}
use Rattle.sheet.specs.declared.Refusal.{Refusal}

module _ (t : List ℤ) {o : Option (List ℤ)} where
  pub left-none : o ≡ none → (false ≡ is_found o) × (t ≡ table_after 0 t o)
  unfolding is_found table_after value_or
  left-none e = (sym (ap is_found e), sym (ap (table_after 0 t) e))

  pub left-some : {v : List ℤ} → o ≡ some v → (true ≡ is_found o) × (v ≡ table_after 0 t o)
  unfolding is_found table_after value_or
  left-some e = (sym (ap is_found e), sym (ap (table_after 0 t) e))

-- a refused call leaves the table as it was
pub left_refused : {A : Type 0} (g : ℕ) (x : A) (t : List ℤ) (o : Option (List ℤ)) {q : Result A Refusal} {r : Refusal}
    → q ≡ answer g x → q ≡ Err r → t ≡ table_after g t o
unfolding answer table_after
left_refused zero x t o a e = clash (ap is_ok a) (ap is_ok e)
left_refused (suc g) x t o a e = refl

-- what is left where no refusal applies
pub left_passed : {g : ℕ} (t : List ℤ) {u : List ℤ} (o : Option (List ℤ)) → g ≡ 0 → u ≡ table_after 0 t o → u ≡ table_after g t o
left_passed t o e h = h ∙ ap (λ (n : ℕ). table_after n t o) (sym e)
