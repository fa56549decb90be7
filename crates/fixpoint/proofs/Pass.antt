-- What one pass over the rows does.
--   pass-steps   a pass is steps: what it leaves is reached by narrowings
--   pass-none    where it finds no place, no settled table lies inside the start
--   pass-moved   it leaves the table as it was, every row still, or lowers the measure
--   pass-still, pass-falls   the two cases, told apart
-- Assumes nothing.
use mathlib.Core.Path.{◌≡◌, refl, sym, subst, ◌∙◌}
use mathlib.Core.Logic.{◌⊎◌, inl, inr, ⊎_elim}
use mathlib.Core.Bool.{Bool}
use mathlib.Core.Option.{Option, none, some, bind, bind-eq-some_iff, some-injective, some-ne-none}
use Prim.Native.Nat.{ℕ, zero, suc, ◌≤◌, ◌<◌}
use native.Mathlib.Decide.{dec_lt}
use native.Mathlib.Nat.{not-suc-le-zero, le_refl, lt_irrefl}
use native.Mathlib.Omega.{arith}
use Rattle.fixpoint.specs.Finding as finding
use Rattle.fixpoint.specs.Passes as passes
use Rattle.fixpoint.specs.Laws as laws
use Rattle.fixpoint.specs.Laws.{Laws}
use Rattle.fixpoint.specs.Run as run
use Rattle.fixpoint.specs.Run.{here, then}
use Rattle.fixpoint.proofs.Between.{between_none, way-start, steps-way}

module _ {A : Type 0} {Inside : A → A → Type 0} {Settled Good : A → Type 0}
    {narrow : ℕ → A → Option A} {same : A → A → Bool} {n : ℕ} {μ : A → ℕ}
    (L : Laws Inside Settled Good narrow same n μ) where
  -- the notions of specs/ for these laws
  abbrev Finds : A → Option A → Type 0
  Finds = finding.Finds Inside Settled

  abbrev Way : A → A → Type 0
  Way = run.Way Inside Settled Good

  abbrev Steps : A → A → Type 0
  Steps = run.Steps narrow n

  abbrev pass : ℕ → A → Option A
  pass = passes.pass narrow

  abbrev Still : ℕ → A → Type 0
  Still = laws.Still narrow

  pub pass-steps : (k : ℕ) {t v : A} → k ≤ n → pass k t ≡ some v → Steps t v
  unfolding passes.pass
  pass-steps zero {t} {v} le e = subst (λ (x : A). Steps t x) (some-injective t v e) here
  pass-steps (suc k) {t} le e =
      let (w, a, b) = (bind-eq-some_iff (pass k t) (narrow k)).0 e in
      then (pass-steps k (omega arith) a) le b

  pub pass-none : (k : ℕ) {s t : A} → k ≤ n → Way s t → pass k t ≡ none → Finds s none
  unfolding passes.pass bind
  pass-none zero {s} {t} le p e = absurd (some-ne-none t e)
  pass-none (suc k) {s} {t} le p e = go (pass k t) refl (λ z. pass-none k (omega arith) p z) e
    where
      go : (o : Option A) → pass k t ≡ o → (o ≡ none → Finds s none) → bind o (narrow k) ≡ none → Finds s none
      go none z ih e' = ih refl
      go (some w) z ih e' =
          let q = steps-way L p (pass-steps k (omega arith) z) in
          between_none L le q.good q.between e'

  still-more : {k : ℕ} {t : A} → Still k t → narrow k t ≡ some t → Still (suc k) t
  still-more {k} {t} q e i h = go (dec_lt i k)
    where
      go : Dec (i < k) → narrow i t ≡ some t
      go (yes l) = q i l
      go (no l) = let z : i ≡ k = omega arith in rw z e

  moved_on : {k : ℕ} {t w v : A} → narrow k w ≡ some v
      → ((w ≡ t) × Still k t) ⊎ (μ w < μ t) → (v ≡ w) ⊎ (μ v < μ w) → ((v ≡ t) × Still (suc k) t) ⊎ (μ v < μ t)
  moved_on {k} e (inl a) (inl b) = inl (b ∙ a.0, still-more a.1 (cc a.0))
  moved_on e (inl a) (inr b) = inr (rw (← a.0) b)
  moved_on e (inr a) (inl b) = inr (rw b a)
  moved_on e (inr a) (inr b) = inr (omega arith)

  pub pass-moved : (k : ℕ) {t v : A} → k ≤ n → Good t → pass k t ≡ some v → ((v ≡ t) × Still k t) ⊎ (μ v < μ t)
  unfolding passes.pass
  pass-moved zero {t} {v} le g e = inl (sym (some-injective t v e), λ i h. absurd (not-suc-le-zero h))
  pass-moved (suc k) {t} le g e =
      let (w, a, b) = (bind-eq-some_iff (pass k t) (narrow k)).0 e in
      let p = steps-way L (way-start L g) (pass-steps k (omega arith) a) in
      moved_on b (pass-moved k (omega arith) g a) (L.falls le p.good b)

  pub pass-still : {t : A} → Good t → pass n t ≡ some t → Still n t
  pass-still {t} g e = ⊎_elim (λ a. a.1) (λ b. absurd (lt_irrefl (μ t) b)) (pass-moved n (le_refl n) g e)

  pub pass-falls : {t v : A} → Good t → pass n t ≡ some v → (v ≡ t → ⊥) → μ v < μ t
  pass-falls g e d = ⊎_elim (λ a. absurd (d a.0)) (λ b. b) (pass-moved n (le_refl n) g e)
