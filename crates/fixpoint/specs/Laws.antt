-- What the theorem of settling asks of a kind of table and of its narrowing: the nine laws of the record Laws.
-- Good is what the tables on the way have besides (of a sheet: accepted), μ the measure that falls where a row moves. Assumes nothing.
use Rattle.std.specs.Prelude.{◌≡◌, ◌⊎◌, ◌↔◌, Bool, true, ℕ, ◌<◌}
use Rattle.std.proofs.Math.Option.{Option, some}
use Rattle.fixpoint.specs.Finding.{Survives}

module _ {A : Type 0} (narrow : ℕ → A → Option A) where
  -- no row below k moves
  abbrev pub Still : ℕ → A → Type 0
  Still k t = (i : ℕ) → i < k → narrow i t ≡ some t

pub record Laws {A : Type 0} (Inside : A → A → Type 0) (Settled Good : A → Type 0)
    (narrow : ℕ → A → Option A) (same : A → A → Bool) (n : ℕ) (μ : A → ℕ) : Type 0 where
  -- a table lies inside itself
  pub rfl : (t : A) → Inside t t
  -- what lies inside u lies inside whatever u lies inside
  pub trans : {t u v : A} → Inside t u → Inside u v → Inside t v
  -- two settled tables inside one good table, each inside the other, are equal
  pub antisym : {s t u : A} → Good s → Inside t s → Inside u s → Settled t → Settled u → Inside t u → Inside u t → t ≡ u
  -- `same` tests equality
  pub equal : (t u : A) → (same t u ≡ true) ↔ (t ≡ u)
  -- narrowing keeps every settled table inside: where one lies inside, there is a place
  pub keeps : {i : ℕ} {t u : A} → i < n → Good t → Settled u → Inside u t → Survives Inside u (narrow i t)
  -- what narrowing leaves is good
  pub good : {i : ℕ} {t v : A} → i < n → Good t → narrow i t ≡ some v → Good v
  -- it lies inside the table before
  pub shrinks : {i : ℕ} {t v : A} → i < n → Good t → narrow i t ≡ some v → Inside v t
  -- it is the table before, or its measure is smaller
  pub falls : {i : ℕ} {t v : A} → i < n → Good t → narrow i t ≡ some v → (v ≡ t) ⊎ (μ v < μ t)
  -- a good table in which no row moves is settled
  pub still : {t : A} → Good t → Still narrow n t → Settled t
