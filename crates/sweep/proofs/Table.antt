-- The constant table of rotations, by its rule: `rotated` reads a table that the checker computes to be this one, and every entry is j + d, or k
-- less where that is not below k (`table-rule`). For d and j below k that is the rotation (`reduced-rotation`). Assumes nothing.
use mathlib.Core.Path.{◌≡◌, sym, ap, ◌∙◌}
use mathlib.Core.Logic.{⊎_elim}
use mathlib.Core.Bool.{Bool, true, cond}
use mathlib.Core.List.{List, []}
use Prim.Native.Nat.{ℕ, suc, ◌+◌, ◌-◌, ◌≤◌, ◌<◌}
use native.Mathlib.Omega.{arith}
use lib.Dec.{ltb}
use lib.ListN.{get_or}
use borrow.Author.Tests.{lt-ltb, ltb-true}
use Rattle.integers.specs.Words.{list_below}
use Rattle.integers.proofs.Booleans.{fails}
use Rattle.integers.proofs.Below.{below_or}
use Rattle.integers.proofs.Lists.{get_or-list_below}
use Rattle.points.specs.Area.{coordinates}
use Rattle.sweep.specs.Rotation.{rotation}
use Rattle.sweep.proofs.Rotations.{rotation-sum, rotation-rest}

-- n, or k less where it is not below k
abbrev pub reduced : ℕ → ℕ → ℕ
reduced k n = cond (ltb n k) n (n - k)

-- the entries after k − 1 and d, those after k − 1, and all
abbrev order : ℕ → ℕ → List ℕ
order m d = list_below coordinates (λ j. reduced (suc m) (j + d))

abbrev orders : ℕ → List (List ℕ)
orders m = list_below coordinates (order m)

abbrev pub rotations : List (List (List ℕ))
rotations = list_below coordinates orders

pub table-rule : (m d j : ℕ) → m < coordinates → d < coordinates → j < coordinates
    → get_or (get_or (get_or rotations m []) d []) j 0 ≡ reduced (suc m) (j + d)
table-rule m d j h g f =
    ap (λ (o : List (List ℕ)). get_or (get_or o d []) j 0) (get_or-list_below orders [] h)
    ∙ ap (λ (o : List ℕ). get_or o j 0) (get_or-list_below (order m) [] g)
    ∙ get_or-list_below (λ j. reduced (suc m) (j + d)) 0 f

pub reduced-rotation : {k d j : ℕ} → k ≤ coordinates → d < k → j < k → reduced k (j + d) ≡ rotation k d j
reduced-rotation {k} {d} {j} a h g = ⊎_elim
    (λ (t : j + d < k). ap branch (lt-ltb (j + d) k t) ∙ sym (rotation-sum a h g t))
    (λ (t : k ≤ j + d). ap branch (fails (λ (e : ltb (j + d) k ≡ true). omega (arith, ltb-true (j + d) k e))) ∙ sym (rotation-rest a h g t))
    (below_or (j + d) k)
  where
    branch : Bool → ℕ
    branch t = cond t (j + d) (j + d - k)
