-- The constant table of relations: the checker computes that each of its 81 entries is right, and so its rule holds at each (`table-rule`).
-- Assumes nothing.
use mathlib.Core.Path.{◌≡◌, refl}
use mathlib.Core.Bool.{Bool, true, ◌&&◌}
use mathlib.Core.List.{List, [], ◌∷◌}
use Prim.Native.Nat.{ℕ, ◌<◌}
use native.Mathlib.Omega.{arith}
use lib.Dec.{eqb}
use lib.ListN.{get_or, replicate}
use borrow.Author.Tests.{eqb-true}
use Rattle.integers.proofs.Booleans.{and-true}
use Rattle.sheet.specs.declared.Allen.{Allen}
use Rattle.sheet.specs.declared.Allen.TheVariants as A
use Rattle.sheet.specs.Relation.{relation_number, Comparison, less, equal, greater, relation_by}
use Rattle.sheet.proofs.Intervals.{number-tells}
use Rattle.relate.specs.Comparisons.{index_of}

abbrev pub relations : List (List (List (List Allen)))
relations =
    replicate 3 (replicate 3 (replicate 3 A.Precedes))
    ∷ replicate 3 (replicate 3 (replicate 3 A.Meets))
    ∷ (
    (
    (A.Overlaps ∷ A.FinishedBy ∷ A.Contains ∷ [])
    ∷ (A.Starts ∷ A.Equals ∷ A.StartedBy ∷ [])
    ∷ (A.During ∷ A.Finishes ∷ A.OverlappedBy ∷ [])
    ∷ []
    )
    ∷ replicate 3 (replicate 3 A.MetBy)
    ∷ replicate 3 (replicate 3 A.PrecededBy)
    ∷ []
    )
    ∷ []

abbrev pub entry : ℕ → ℕ → ℕ → ℕ → Allen
entry p q r s = get_or (get_or (get_or (get_or relations p []) q []) r []) s A.Precedes

-- each of three
unfoldable every : (Comparison → Bool) → Bool
every f = f less && f equal && f greater

every-at : (f : Comparison → Bool) → every f ≡ true → (c : Comparison) → f c ≡ true
unfolding every
every-at f e less = (and-true (and-true e).0).0
every-at f e equal = (and-true {a = f less} (and-true e).0).1
every-at f e greater = (and-true {a = f less && f equal} e).1

unfoldable is_right : Comparison → Comparison → Comparison → Comparison → Bool
is_right p q r s = eqb (relation_number (entry (index_of p) (index_of q) (index_of r) (index_of s))) (relation_number (relation_by p q r s))

-- all 81 entries
right : every (λ p. every (λ q. every (λ r. every (is_right p q r)))) ≡ true
unfolding every is_right index_of relation_number relation_by
right = refl

pub table-rule : (p q r s : Comparison) → entry (index_of p) (index_of q) (index_of r) (index_of s) ≡ relation_by p q r s
unfolding is_right
table-rule p q r s =
    number-tells _ _ (eqb-true (relation_number (entry (index_of p) (index_of q) (index_of r) (index_of s))) (relation_number (relation_by p q r s))
    (every-at (is_right p q r) (every-at (λ r. every (is_right p q r)) (every-at (λ q. every (λ r. every (is_right p q r)))
    (every-at (λ p. every (λ q. every (λ r. every (is_right p q r)))) right p) q) r) s))

-- where the code has found the indices
pub entry-is : {p q r s : ℕ} (p' q' r' s' : Comparison) → p ≡ index_of p' → q ≡ index_of q' → r ≡ index_of r' → s ≡ index_of s'
    → entry p q r s ≡ relation_by p' q' r' s'
entry-is p' q' r' s' e f g h = rw (e, f, g, h) (table-rule p' q' r' s')

pub index_below : (c : Comparison) → index_of c < 3
unfolding index_of
index_below less = omega arith
index_below equal = omega arith
index_below greater = omega arith
