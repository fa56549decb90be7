-- Laws of a call's answer: what an answer says of the refusal that it was made by, a refusal handed on, and its number. Assumes nothing.
use mathlib.Core.Path.{◌≡◌, refl, sym, ap, ◌∙◌}
use mathlib.Core.Bool.{true}
use Prim.Native.Nat.{ℕ, zero, suc, ◌<◌}
use native.Mathlib.Omega.{arith}
use lib.Dec.{eqb}
use borrow.Author.Tests.{eqb-true}
use Rattle.std.specs.Prelude.{Result, Ok, Err, is_ok, is_err, false}
use Rattle.integers.specs.Below.{all_below}
use Rattle.integers.proofs.Booleans.{clash}
use Rattle.integers.proofs.Below.{all-at}
use Rattle.sheet.specs.declared.Refusal.{Refusal}
use Rattle.sheet.specs.Refusal.{refusal_number, ground, grounds, ◌else◌}
use Rattle.sheet.specs.Answer.{answer}

-- an answer is not both
not_both : {A B : Type 0} (q : Result A Refusal) {x : A} {r : Refusal} → q ≡ Ok x → q ≡ Err r → B
not_both q o e = clash (ap is_ok o) (ap is_ok e)

-- a refusal as the answer of another call
again : {A B : Type 0} → Result A Refusal → Result B Refusal
again (Ok x) = Err (ground 0)
again (Err r) = Err r

-- ---- where none applies
pub answered : {A : Type 0} {g : ℕ} (x : A) → g ≡ 0 → answer g x ≡ Ok x
unfolding answer
answered x e = ap (λ (n : ℕ). answer n x) e

-- a call that was not refused
pub passed : {A : Type 0} (g : ℕ) (x : A) {q : Result A Refusal} {y : A} → q ≡ answer g x → q ≡ Ok y → g ≡ 0
unfolding answer
passed zero x a o = refl
passed (suc g) x a o = not_both _ o a

-- ---- where one applies
-- a call's refusal handed on as that of a call with later checks, whatever else would be found, or with none
pub handed_on : {A B : Type 0} (g h : ℕ) (x : A) (y : B) {q : Result A Refusal} {z : Result B Refusal} {r : Refusal}
    → q ≡ answer g x → q ≡ Err r → z ≡ Err r → z ≡ answer (g else h) y
unfolding answer ◌else◌ again
handed_on zero h x y a e f = not_both _ a e
handed_on (suc g) h x y a e f = f ∙ ap again (sym e ∙ a)

pub refused : {A B : Type 0} (g : ℕ) (x : A) (y : B) {q : Result A Refusal} {z : Result B Refusal} {r : Refusal}
    → q ≡ answer g x → q ≡ Err r → z ≡ Err r → z ≡ answer g y
unfolding answer again
refused zero x y a e f = not_both _ a e
refused (suc g) x y a e f = f ∙ ap again (sym e ∙ a)

-- a call asked whether it was refused
pub is_refused : {A : Type 0} (g : ℕ) (x : A) {q : Result A Refusal} → q ≡ answer g x → is_err q ≡ true → 0 < g
unfolding answer
is_refused zero x a e = clash e (ap is_err a)
is_refused (suc g) x a e = omega arith

pub not_refused : {A : Type 0} (g : ℕ) (x : A) {q : Result A Refusal} → q ≡ answer g x → is_err q ≡ false → g ≡ 0
unfolding answer
not_refused zero x a e = refl
not_refused (suc g) x a e = clash (ap is_err a) e

-- ---- its number
pub number_of_ground : (n : ℕ) → n < 16 → refusal_number (ground n) ≡ suc n
unfolding refusal_number ground grounds all_below
number_of_ground n h =
    let each : all_below 16 (λ m. eqb (refusal_number (ground m)) (suc m)) ≡ true = refl in
    eqb-true _ _ (all-at (λ m. eqb (refusal_number (ground m)) (suc m)) each n h)
