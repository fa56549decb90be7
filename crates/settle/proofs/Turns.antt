-- The tests that say which rows are to be narrowed, set one by one: what the small loops of settling need. Assumes nothing.
use mathlib.Core.Path.{◌≡◌, refl, sym, ap, ◌∙◌, subst, subst⁻¹}
use mathlib.Core.Logic.{⊎_elim}
use mathlib.Core.Bool.{Bool, true, false}
use mathlib.Core.List.{List}
use Prim.Native.Nat.{ℕ, ◌+◌, ◌≤◌, ◌<◌}
use native.Mathlib.Numerals.{add-one}
use native.Mathlib.Omega.{arith}
use lib.ListN.{length, set}
use lib.Seq.{get_or-set_same, get_or-set_other}
use Rattle.integers.proofs.Booleans.{clash}
use Rattle.integers.proofs.Below.{last_or}
use Rattle.settle.specs.Todo.{todo, Touched}

-- a row below m that is not to be narrowed was not before, and is spared; the others are as they were
pub record Setting (due : List Bool) (spared : ℕ → Type 0) (m : ℕ) (more : List Bool) : Type 0 where
  pub below : (q : ℕ) → q < m → todo more q ≡ false → (todo due q ≡ false) × spared q
  pub above : (q : ℕ) → m ≤ q → todo more q ≡ todo due q

pub setting-start : {due : List Bool} {spared : ℕ → Type 0} → Setting due spared 0 due
setting-start = record { below = λ q h. absurd (omega arith); above = λ q h. refl }

module _ {due : List Bool} {spared : ℕ → Type 0} {m : ℕ} {more : List Bool} (x : Setting due spared m more) where
  -- row m + 1 stays: where row m + 1 is not to be narrowed, it is spared
  pub setting-stay : (todo more m ≡ false → spared m) → Setting due spared (m + 1) more
  setting-stay spare = record {
    below = λ q h c. ⊎_elim
        (λ p. subst⁻¹ (λ (k : ℕ). (todo due k ≡ false) × spared k) p
        (let here = ap (todo more) (sym p) ∙ c in (sym (x.above m (omega arith)) ∙ here, spare here)))
        (λ l. x.below q l c) (last_or (subst (λ (k : ℕ). q < k) (add-one m) h));
    above = λ q h. x.above q (omega arith);
  }

  -- row m + 1 is set
  pub setting-put : m < length more → Setting due spared (m + 1) (set more m true)
  setting-put l = record {
    below = λ q h c. ⊎_elim
        (λ p. clash (ap (todo (set more m true)) p ∙ get_or-set_same more m true false l) c)
        (λ k. x.below q k (sym (get_or-set_other more m q true false (less k)) ∙ c)) (last_or (subst (λ (k : ℕ). q < k) (add-one m) h));
    above = λ q h. get_or-set_other more m q true false (later h) ∙ x.above q (omega arith);
  }
    where
      less : {q : ℕ} → q < m → q ≡ m → ⊥
      less h e = omega arith

      later : {q : ℕ} → m + 1 ≤ q → q ≡ m → ⊥
      later h e = omega arith

  pub setting-done : {n : ℕ} → n ≤ m → Touched n due spared more
  setting-done h = record { left = λ q l c. x.below q (omega arith) c }

-- every row is spared: the tests stay as they are
pub untouched : {n : ℕ} {due : List Bool} {spared : ℕ → Type 0} → ((m : ℕ) → m < n → spared m) → Touched n due spared due
untouched h = record { left = λ m l c. (c, h m l) }

-- what follows of a row that is spared
pub touched-so : {n : ℕ} {due more : List Bool} {spared spared' : ℕ → Type 0} → Touched n due spared more
    → ((m : ℕ) → m < n → spared m → spared' m) → Touched n due spared' more
touched-so x f = record { left = λ m l c. let w = x.left m l c in (w.0, f m l w.1) }

-- one rule after the others
pub touched-next : {n r : ℕ} {due more most : List Bool} {spared : ℕ → ℕ → Type 0} → Touched n due (λ m. (q : ℕ) → q < r → spared q m) more
    → Touched n more (spared r) most → Touched n due (λ m. (q : ℕ) → q < r + 1 → spared q m) most
touched-next {r = r} {spared = spared} x y =
    record {
      left = λ m l c.
          let b = y.left m l c in
          let a = x.left m l b.0 in (
            a.0,
            λ q h. ⊎_elim (λ p. subst⁻¹ (λ (k : ℕ). spared k m) p b.1) (λ k. a.1 q k) (last_or (subst (λ (k : ℕ). q < k) (add-one r) h)),
          );
    }
