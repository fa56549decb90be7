-- Runs that have the same words before a place: what is written past it keeps them (`same_set`), and so do several steps (`same_then`).
-- Assumes nothing.
use mathlib.Core.Path.{refl, ◌∙◌}
use mathlib.Core.List.{List}
use Prim.Native.Nat.{ℕ, ◌≤◌}
use native.Mathlib.Omega.{arith}
use lib.IntN.{ℤ, pos}
use lib.ListN.{set}
use lib.Seq.{get_or-set_other}
use Rattle.outline.specs.Places.{SameTo}

pub same_none : (at : ℕ) (o : List ℤ) → SameTo at o o
same_none at o = record { words = λ x h. refl }

pub same_set : {at : ℕ} {o o' : List ℤ} (n : ℕ) (w : ℤ) → SameTo at o o' → at ≤ n → SameTo at o (set o' n w)
same_set {o'} n w s k = record { words = λ x h. get_or-set_other o' n x w (pos 0) (λ e. omega arith) ∙ s.words x h }

pub same_then : {at to : ℕ} {o o' o'' : List ℤ} → SameTo at o o' → SameTo to o' o'' → at ≤ to → SameTo at o o''
same_then s t k = record { words = λ x h. t.words x (omega arith) ∙ s.words x h }
