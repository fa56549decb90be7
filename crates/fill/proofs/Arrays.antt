-- An array that is written place by place: what holds of the places below d, and of the one written, holds of one place more (`one_more`).
-- Assumes nothing.
use mathlib.Core.Path.{sym, subst}
use mathlib.Core.Logic.{⊎_elim}
use mathlib.Core.List.{List}
use Prim.Native.Nat.{ℕ, ◌+◌, ◌<◌}
use native.Mathlib.Numerals.{add-one}
use native.Mathlib.Omega.{arith}
use lib.ListN.{length, set}
use lib.Seq.{get_or-set_same, get_or-set_other}
use Rattle.integers.proofs.Below.{last_or}
use Rattle.grid.specs.Grid.{at}

-- each place e below d holds a number that is P e
abbrev pub Holds : (ℕ → ℕ → Type 0) → List ℕ → ℕ → Type 0
Holds P xs d = (e : ℕ) → e < d → P e (at xs e)

pub one_more : (P : ℕ → ℕ → Type 0) (xs : List ℕ) {d x : ℕ} → d < length xs → Holds P xs d → P d x → Holds P (set xs d x) (d + 1)
one_more P xs {d} {x} l h p e k =
    ⊎_elim (λ q. subst (λ (n : ℕ). P n (at (set xs d x) n)) (sym q) (subst (P d) (sym (get_or-set_same xs d x 0 l)) p))
    (λ b. subst (P e) (sym (get_or-set_other xs d e x 0 (λ q. omega (arith, b, q)))) (h e b))
    (last_or (subst (λ (n : ℕ). e < n) (add-one d) k))
