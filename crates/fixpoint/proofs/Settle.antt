-- The theorem of settling: passes until nothing moves find the greatest settled table inside, or that none lies inside.
--   settle-finds   THE THEOREM: Good t → Finds t (settle_by t)
--   settles        whatever is found for a good t is settle_by t: so code is compared by what it finds, not step by step
--   settles-none   on the way from t a row has no place: settle_by t ≡ none
--   settles-some   on the way from t no row moves any more: settle_by t ≡ some v
--   rounds-find    any number of passes above the measure finds the same
-- Assumes nothing.
use mathlib.Core.Path.{◌≡◌, refl, sym, ap, subst⁻¹, ◌∙◌}
use mathlib.Core.Bool.{Bool, true, false, cond, false≢true}
use mathlib.Core.Option.{Option, none, some, bind}
use Prim.Native.Nat.{ℕ, zero, suc, ◌<◌}
use native.Mathlib.Nat.{not-suc-le-zero, le_refl}
use native.Mathlib.Omega.{arith}
use Rattle.fixpoint.specs.Finding as finding
use Rattle.fixpoint.specs.Passes as passes
use Rattle.fixpoint.specs.Laws.{Laws, Still}
use Rattle.fixpoint.specs.Run as run
use Rattle.fixpoint.proofs.Unique.{unique}
use Rattle.fixpoint.proofs.Between.{between_none, between-still, way-start, steps-way}
use Rattle.fixpoint.proofs.Pass.{pass-steps, pass-none, pass-still, pass-falls}

module _ {A : Type 0} {Inside : A → A → Type 0} {Settled Good : A → Type 0}
    {narrow : ℕ → A → Option A} {same : A → A → Bool} {n : ℕ} {μ : A → ℕ}
    (L : Laws Inside Settled Good narrow same n μ) where
  -- the notions of specs/ for these laws
  abbrev Finds : A → Option A → Type 0
  Finds = finding.Finds Inside Settled

  abbrev Way : A → A → Type 0
  Way = run.Way Inside Settled Good

  abbrev pass : ℕ → A → Option A
  pass = passes.pass narrow

  abbrev rounds : ℕ → A → Option A
  rounds = passes.rounds narrow same n

  abbrev settle_by : A → Option A
  settle_by = passes.settle_by narrow same n μ

  -- tables that the test tells apart are not equal
  pub differs : {t u : A} → same t u ≡ false → t ≡ u → ⊥
  differs {t} {u} d e = false≢true (sym d ∙ (L.equal t u).1 e)

  -- one pass more, where those after it find
  round-find : (f : ℕ) {s t : A} → ((v : A) → μ v < f → Way s v → Finds s (rounds f v)) → μ t < suc f → Way s t
      → Finds s (rounds (suc f) t)
  unfolding passes.rounds bind
  round-find f {s} {t} more lt p = go (pass n t) refl
    where
      last : (v : A) → pass n t ≡ some v → (d : Bool) → same v t ≡ d → Finds s (cond d (some v) (rounds f v))
      last v e true d =
          let z : v ≡ t = (L.equal v t).0 d in
          subst⁻¹ (λ (x : A). Finds s (some x)) z
          (between-still L p.good p.between (pass-still L p.good (e ∙ ap some z)))
      last v e false d =
          more v (omega (arith, pass-falls L p.good e (differs d))) (steps-way L p (pass-steps L n (le_refl n) e))

      go : (o : Option A) → pass n t ≡ o → Finds s (bind o (λ v. cond (same v t) (some v) (rounds f v)))
      go none e = pass-none L n (le_refl n) p e
      go (some v) e = last v e (same v t) refl

  pub rounds-find : (f : ℕ) {s t : A} → μ t < f → Way s t → Finds s (rounds f t)
  rounds-find zero lt p = absurd (not-suc-le-zero lt)
  rounds-find (suc f) lt p = round-find f (λ v. rounds-find f) lt p

  pub settle-finds : (t : A) → Good t → Finds t (settle_by t)
  unfolding passes.settle_by
  settle-finds t g = rounds-find (suc (μ t)) (le_refl (suc (μ t))) (way-start L g)

  pub settles : {t : A} {r : Option A} → Good t → Finds t r → settle_by t ≡ r
  settles {t} g h = unique L g (settle-finds t g) h

  pub settles-none : {i : ℕ} {t v : A} → i < n → Way t v → narrow i v ≡ none → settle_by t ≡ none
  settles-none lt p e = settles p.start (between_none L lt p.good p.between e)

  pub settles-some : {t v : A} → Way t v → Still narrow n v → settle_by t ≡ some v
  settles-some p q = settles p.start (between-still L p.good p.between q)
