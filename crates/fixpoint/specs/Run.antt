-- Settling in single steps: what is kept from step to step, in whatever order the rows are narrowed.
-- Steps are narrowings in any order; Way is what holds of every table so reached; Cut is a tightening; and Run is the state of a
-- run that narrows the rows in turn and counts the quiet steps (document 02, T-08). Assumes nothing.
use Rattle.std.specs.Prelude.{◌≡◌, ◌↔◌, ℕ, zero, suc, ◌+◌, ◌≤◌, ◌<◌}
use Rattle.std.proofs.Math.Option.{Option, some}
use Rattle.fixpoint.specs.Finding.{Between}

-- v comes from t by narrowing rows below n one after another, in any order and as often as one likes
pub data Steps {A : Type 0} (narrow : ℕ → A → Option A) (n : ℕ) (t : A) : A → Type 0 where
  here : Steps narrow n t t
  then : {i : ℕ} {v w : A} → Steps narrow n t v → i < n → narrow i v ≡ some w → Steps narrow n t w

-- v may stand for t: both are good, and v lies between t and every settled table inside t
pub record Way {A : Type 0} (Inside : A → A → Type 0) (Settled Good : A → Type 0) (t v : A) : Type 0 where
  pub start : Good t
  pub good : Good v
  pub between : Between Inside Settled t v

-- t' is t cut down by P: the tables inside t' are those inside t that meet P
pub record Cut {A : Type 0} (Inside : A → A → Type 0) (P : A → Type 0) (t t' : A) : Type 0 where
  pub cuts : (u : A) → Inside u t' ↔ (Inside u t × P u)

module _ (n : ℕ) where
  -- the row after row i of n rows
  pub data Turn (i : ℕ) : ℕ → Type 0 where
    on : suc i < n → Turn i (suc i)
    over : suc i ≡ n → Turn i zero

  -- row i was among the last q rows in turn before row `next`: below it, or above it and one time around
  pub data Recent (next q i : ℕ) : Type 0 where
    before : i < next → next ≤ i + q → Recent next q i
    around : next ≤ i → n + next ≤ i + q → Recent next q i

-- a run opened on t (cut down by the tightenings since) has reached v, narrows row `next` next, and its last q steps moved nothing
pub record Run {A : Type 0} (Inside : A → A → Type 0) (Settled Good : A → Type 0) (narrow : ℕ → A → Option A) (n : ℕ)
    (t v : A) (next q : ℕ) : Type 0 where
  pub way : Way Inside Settled Good t v
  pub next_row : next < n
  pub quiet : (i : ℕ) → i < n → Recent n next q i → narrow i v ≡ some v
