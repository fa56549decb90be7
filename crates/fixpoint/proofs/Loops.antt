-- Settling in code by two loops: a pass with a mark for 'something moved', and passes until nothing moves.
--   Walk   the invariant of the pass: rows 0 to i − 1 of t₀ were narrowed, which gave t
--   walk_start, walk_none, walk-still, walk-moved, walk_end, walk-changed   its start, its turns and its end
--   turn-none, turn-still, turn_moved   what a pass over v tells the loop around it, whose invariant is Way t v and measure μ v
-- The code's i + 1 stands here as it is. Assumes nothing.
use mathlib.Core.Path.{◌≡◌, refl}
use mathlib.Core.Logic.{⊎_elim}
use mathlib.Core.Bool.{Bool, true, false, false≢true, true≢false}
use mathlib.Core.Option.{Option, none, some, bind}
use Prim.Native.Nat.{ℕ, zero, suc, ◌+◌, ◌≤◌, ◌<◌}
use native.Mathlib.Decide.{ℕ_discrete}
use native.Mathlib.Nat.{le_refl, lt_irrefl}
use native.Mathlib.Numerals.{add-one}
use native.Mathlib.Omega.{arith}
use Rattle.fixpoint.specs.Passes as passes
use Rattle.fixpoint.specs.Laws.{Laws}
use Rattle.fixpoint.specs.Run as run
use Rattle.fixpoint.proofs.Between.{steps-way}
use Rattle.fixpoint.proofs.Pass.{pass-steps, pass-none, pass-still, pass-falls}
use Rattle.fixpoint.proofs.Settle.{settles, settles-some}

-- rows 0 to i − 1 of t₀ were narrowed, which gave t; `moved` is the mark
pub record Walk {A : Type 0} (Good : A → Type 0) (narrow : ℕ → A → Option A) (n : ℕ) (μ : A → ℕ)
    (t₀ t : A) (moved : Bool) (i : ℕ) : Type 0 where
  pub within : i ≤ n
  pub good : Good t
  pub so_far : passes.pass narrow i t₀ ≡ some t
  -- where the mark is set the measure fell, where not the table is as it was
  pub fell : moved ≡ true → μ t < μ t₀
  pub stood : moved ≡ false → t ≡ t₀

module _ {A : Type 0} (narrow : ℕ → A → Option A) (t : A) where
  -- once a row has no place, the pass has none
  stays-none : (i n : ℕ) → i ≤ n → passes.pass narrow i t ≡ none → passes.pass narrow n t ≡ none
  unfolding passes.pass bind
  stays-none i zero h e = let z : i ≡ 0 = omega arith in rw z at e
  stays-none i (suc n) h e = go (ℕ_discrete i (suc n)) (λ l. stays-none i n l e)
    where
      go : Dec (i ≡ suc n) → (i ≤ n → passes.pass narrow n t ≡ none) → bind (passes.pass narrow n t) (narrow n) ≡ none
      go (yes y) ih = rw y at e
      go (no c) ih = rw (ih (omega arith))

module _ {A : Type 0} {Inside : A → A → Type 0} {Settled Good : A → Type 0}
    {narrow : ℕ → A → Option A} {same : A → A → Bool} {n : ℕ} {μ : A → ℕ}
    (L : Laws Inside Settled Good narrow same n μ) where
  -- the notions of specs/ for these laws
  abbrev Walked : A → A → Bool → ℕ → Type 0
  Walked = Walk Good narrow n μ

  abbrev Way : A → A → Type 0
  Way = run.Way Inside Settled Good

  abbrev pass : ℕ → A → Option A
  pass = passes.pass narrow

  abbrev settle_by : A → Option A
  settle_by = passes.settle_by narrow same n μ

  -- ---- the inner loop

  pub walk_start : {t : A} → Good t → Walked t t false 0
  unfolding passes.pass
  walk_start g = record { within = omega arith; good = g; so_far = refl; fell = λ e. absurd (false≢true e); stood = λ e. refl }

  module _ {t₀ t : A} {moved : Bool} {i : ℕ} (w : Walked t₀ t moved i) (lt : i < n) where
    next-pass : {o : Option A} → narrow i t ≡ o → pass (i + 1) t₀ ≡ o
    unfolding passes.pass bind
    next-pass e = rw (add-one i, w.so_far) e

    pub walk_none : narrow i t ≡ none → pass n t₀ ≡ none
    walk_none e = stays-none narrow t₀ (i + 1) n (omega arith) (next-pass e)

    pub walk-still : narrow i t ≡ some t → Walked t₀ t moved (i + 1)
    walk-still e = record { within = omega arith; good = w.good; so_far = next-pass e; fell = w.fell; stood = w.stood }

    falls-on : {u : A} → (b : Bool) → moved ≡ b → μ u < μ t → μ u < μ t₀
    falls-on true e h = omega (arith, w.fell e)
    falls-on false e h = rw (← w.stood e) h

    pub walk-moved : {u : A} → narrow i t ≡ some u → (u ≡ t → ⊥) → Walked t₀ u true (i + 1)
    walk-moved e c =
        record {
          within = omega arith;
          good = L.good lt w.good e;
          so_far = next-pass e;
          fell = λ x. falls-on moved refl (⊎_elim (λ y. absurd (c y)) (λ y. y) (L.falls lt w.good e));
          stood = λ x. absurd (true≢false x);
        }

  pub walk_end : {t₀ t : A} {moved : Bool} {i : ℕ} → n ≤ i → Walked t₀ t moved i → pass n t₀ ≡ some t
  walk_end {i} h w = let q : n ≡ i = omega (arith, w.within) in rw q w.so_far

  -- where the mark is set, the table is another one
  pub walk-changed : {t₀ t : A} {moved : Bool} {i : ℕ} → Walked t₀ t moved i → moved ≡ true → t ≡ t₀ → ⊥
  walk-changed {t₀} w m e = lt_irrefl (μ t₀) (rw e at (w.fell m))

  -- ---- the outer loop

  module _ {t v : A} (p : Way t v) where
    pub turn-none : pass n v ≡ none → settle_by t ≡ none
    turn-none e = settles L p.start (pass-none L n (le_refl n) p e)

    pub turn-still : pass n v ≡ some v → settle_by t ≡ some v
    turn-still e = settles-some L p (pass-still L p.good e)

    pub turn_moved : {u : A} → pass n v ≡ some u → (u ≡ v → ⊥) → Way t u × (μ u < μ v)
    turn_moved e c = (steps-way L p (pass-steps L n (le_refl n) e), pass-falls L p.good e c)
