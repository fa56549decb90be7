-- What a call answers, where g is its refusal's number, 0 meaning none, and x what was found; what was found as code has it; and the lent table
-- after the call. Assumes nothing.
use Rattle.std.specs.Prelude.{Option, Some, None, Result, Ok, Err, Bool, true, false, List, ℕ, zero, suc, ℤ}
use Rattle.std.proofs.Math.Option.{none, some}
use Rattle.std.proofs.Math.Option as Math
use Rattle.integers.specs.Below.{value_or}
use Rattle.sheet.specs.declared.Refusal.{Refusal}
use Rattle.sheet.specs.Refusal.{ground}

unfoldable pub answer : {A : Type 0} → ℕ → A → Result A Refusal
answer zero x = Ok x
answer (suc g) x = Err (ground g)

-- something or nothing of the definitions as an `Option` of code, and whether it is something
unfoldable pub as_option : {A : Type 0} → Math.Option A → Option A
as_option none = None
as_option (some x) = Some x

unfoldable pub is_found : {A : Type 0} → Math.Option A → Bool
is_found none = false
is_found (some x) = true

-- the table after narrowing, settling or placing: unchanged where it is refused or nothing is left
unfoldable pub table_after : ℕ → List ℤ → Math.Option (List ℤ) → List ℤ
table_after zero table o = value_or table o
table_after (suc g) table o = table
