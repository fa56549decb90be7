-- Trying every point of a row's ranges finds exactly the points that pass a test: `some_point` and `reaches` against statements about
-- any point, for a test that does not look past the last dimension. Assumes nothing.
use mathlib.Core.Path.{◌≡◌, sym, ap, ap₂, ◌∙◌}
use mathlib.Core.Logic.{⊎_elim}
use mathlib.Core.Bool.{Bool, true, ◌&&◌}
use mathlib.Core.List.{List, [], ◌∷◌}
use Prim.Native.Nat.{ℕ, zero, suc, ◌+◌, ◌<◌}
use native.Mathlib.Nat.{add-zero, suc-add, add-suc, not-suc-le-zero}
use native.Mathlib.Omega.{arith}
use lib.IntN.{ℤ, pos, ◌+ℤ◌, ◌-ℤ◌}
use lib.Signed.{◌≤ℤ◌}
use Rattle.integers.specs.Integer.{nat, eq_z, width}
use Rattle.integers.specs.Words.{word}
use Rattle.integers.proofs.Booleans.{and-true, true-and}
use Rattle.integers.proofs.Below.{any_at, any-true, last_or}
use Rattle.integers.proofs.Ints.{eq_z-eq, eq-eq_z}
use Rattle.integers.proofs.Ranges.{count, count-below}
use Rattle.sheet.specs.Layout.{axes, low, high}
use Rattle.sheet.specs.Allowed.{in_ranges}
use Rattle.sheet.specs.Bounds.{point_from, some_point, reaches}
use Rattle.sheet.proofs.Forbidden.{in-range}
use Rattle.sheet.proofs.Coordinates.{Agree}

-- the words of q below m, before p
stack : List ℤ → ℕ → List ℤ → List ℤ
stack q zero p = p
stack q (suc m) p = stack q m (word q m ∷ p)

stack-past : (q : List ℤ) (m e : ℕ) (p : List ℤ) → word (stack q m p) (m + e) ≡ word p e
unfolding stack
stack-past q zero e p = ap (word p) (omega arith)
stack-past q (suc m) e p = ap (word (stack q m (word q m ∷ p))) (suc-add m e ∙ sym (add-suc m e)) ∙ stack-past q m (suc e) (word q m ∷ p)

stack_at : (q : List ℤ) (m : ℕ) (p : List ℤ) (d : ℕ) → d < m → word (stack q m p) d ≡ word q d
unfolding stack
stack_at q zero p d h = absurd (not-suc-le-zero h)
stack_at q (suc m) p d h =
    ⊎_elim
    (λ e. ap (word (stack q m (word q m ∷ p))) (e ∙ sym (add-zero m)) ∙ stack-past q m 0 (word q m ∷ p) ∙ ap (word q) (sym e))
    (λ l. stack_at q m (word q m ∷ p) d l) (last_or h)

module _ (block : List ℤ) (table : List ℤ) (i : ℕ) where
  -- the test does not look past the last dimension
  abbrev pub Respects : (List ℤ → Bool) → Type 0
  Respects f = (p q : List ℤ) → Agree block table p q → f p ≡ f q

  abbrev count_of : ℕ → ℕ
  count_of m = width (low block table i m) (high block table i m)

  -- ---- what is found passes
  found_from : (f : List ℤ → Bool) (m : ℕ) (p : List ℤ) → point_from block table i f m p ≡ true → (q : List ℤ) × (f q ≡ true)
  unfolding point_from
  found_from f zero p e = (p, e)
  found_from f (suc m) p e = let w = any_at e in found_from f m ((low block table i m +ℤ pos w.0) ∷ p) w.2

  pub found : (f : List ℤ → Bool) → some_point block table i f ≡ true → (q : List ℤ) × (f q ≡ true)
  unfolding some_point
  found f e = found_from f (axes block) [] e

  -- ---- what passes is found
  met-from : (f : List ℤ → Bool) (q : List ℤ) (m : ℕ) (p : List ℤ)
      → ((d : ℕ) → d < m → (low block table i d ≤ℤ word q d) × (word q d ≤ℤ high block table i d))
      → f (stack q m p) ≡ true → point_from block table i f m p ≡ true
  unfolding point_from stack
  met-from f q zero p r e = e
  met-from f q (suc m) p r e =
      let h = r m (omega arith) in
      any-true (λ c. point_from block table i f m ((low block table i m +ℤ pos c) ∷ p)) (nat (word q m -ℤ low block table i m))
      (count-below h.0 h.1)
      (ap (λ (z : ℤ). point_from block table i f m (z ∷ p)) (count h.0) ∙ met-from f q m (word q m ∷ p) (λ d l. r d (omega arith)) e)

  pub met : (f : List ℤ → Bool) → Respects f → (q : List ℤ) → in_ranges block table i q ≡ true → f q ≡ true → some_point block table i f ≡ true
  unfolding some_point
  met f agree q r e =
      met-from f q (axes block) [] (λ d l. in-range block table i d q r l)
      (agree (stack q (axes block) []) q (λ d h. stack_at q (axes block) [] d h) ∙ e)

  -- ---- a coordinate that is reached
  pub reached-at : (f : List ℤ → Bool) (d : ℕ) (z : ℤ) → reaches block table i f d z ≡ true → (q : List ℤ) × (f q ≡ true) × (word q d ≡ z)
  unfolding reaches
  reached-at f d z e =
      let w = found (λ p. eq_z (word p d) z && f p) e in
      let u = and-true w.1 in
      (w.0, u.1, eq_z-eq u.0)

  pub reaches-by : (f : List ℤ → Bool) → Respects f → (d : ℕ) (z : ℤ) → d < axes block
      → (q : List ℤ) → in_ranges block table i q ≡ true → f q ≡ true → word q d ≡ z → reaches block table i f d z ≡ true
  unfolding reaches
  reaches-by f agree d z l q r e w =
      met (λ p. eq_z (word p d) z && f p) (λ p q h. ap₂ (λ (y : ℤ) (x : Bool). eq_z y z && x) (h d l) (agree p q h)) q r (true-and (eq-eq_z w) e)
