-- Settling in code by a worklist: a test `dirty` of the rows, and a row that is not dirty stays as it is when narrowed.
--   Marks           the invariant, beside Way t v
--   marks-all       every row is dirty: it holds
--   marks-again     narrowing row i again moves nothing, nor does narrowing another clean row: it holds, and row i may be cleared
--   marks-still     narrowing row i moved nothing: row i may be cleared
--   marks-clear     no row is dirty: no row moves
--   marks-settled   so settle_by t ≡ some v
-- Assumes nothing.
use mathlib.Core.Path.{◌≡◌, sym, ◌∙◌}
use mathlib.Core.Bool.{Bool, true, false, false≢true}
use mathlib.Core.Option.{Option, some}
use Prim.Native.Nat.{ℕ, ◌<◌}
use native.Mathlib.Decide.{ℕ_discrete}
use Rattle.fixpoint.specs.Passes.{settle_by}
use Rattle.fixpoint.specs.Laws.{Laws, Still}
use Rattle.fixpoint.specs.Run.{Way}
use Rattle.fixpoint.proofs.Settle.{settles-some}

module _ {A : Type 0} (narrow : ℕ → A → Option A) (n : ℕ) where
  pub record Marks (dirty : ℕ → Bool) (v : A) : Type 0 where
    pub clean : (j : ℕ) → j < n → dirty j ≡ false → narrow j v ≡ some v

module _ {A : Type 0} {narrow : ℕ → A → Option A} {n : ℕ} where
  pub marks-all : {dirty : ℕ → Bool} {v : A} → ((j : ℕ) → j < n → dirty j ≡ true) → Marks narrow n dirty v
  marks-all h = record { clean = λ j lt e. absurd (false≢true (sym e ∙ h j lt)) }

  pub marks-again : {dirty : ℕ → Bool} {v : A} {i : ℕ} → narrow i v ≡ some v
      → ((j : ℕ) → j < n → (j ≡ i → ⊥) → dirty j ≡ false → narrow j v ≡ some v) → Marks narrow n dirty v
  marks-again {dirty} {v} {i} e h = record { clean = λ j lt c. go j lt c (ℕ_discrete j i) }
    where
      go : (j : ℕ) → j < n → dirty j ≡ false → Dec (j ≡ i) → narrow j v ≡ some v
      go j lt c (yes z) = rw z e
      go j lt c (no z) = h j lt z c

  pub marks-still : {dirty dirty' : ℕ → Bool} {v : A} {i : ℕ} → Marks narrow n dirty v → narrow i v ≡ some v
      → ((j : ℕ) → j < n → (j ≡ i → ⊥) → dirty' j ≡ false → dirty j ≡ false) → Marks narrow n dirty' v
  marks-still m e h = marks-again e (λ j lt z c. m.clean j lt (h j lt z c))

  pub marks-clear : {dirty : ℕ → Bool} {v : A} → Marks narrow n dirty v → ((j : ℕ) → j < n → dirty j ≡ false) → Still narrow n v
  marks-clear m h j lt = m.clean j lt (h j lt)

module _ {A : Type 0} {Inside : A → A → Type 0} {Settled Good : A → Type 0}
    {narrow : ℕ → A → Option A} {same : A → A → Bool} {n : ℕ} {μ : A → ℕ}
    (L : Laws Inside Settled Good narrow same n μ) where
  pub marks-settled : {dirty : ℕ → Bool} {t v : A} → Way Inside Settled Good t v → Marks narrow n dirty v
      → ((j : ℕ) → j < n → dirty j ≡ false) → settle_by narrow same n μ t ≡ some v
  marks-settled p m h = settles-some L p (marks-clear m h)
