-- Settling as a computation: the rows narrowed in turn, pass after pass, until a pass changes nothing.
-- `narrow i t` is t with row i narrowed (rows count from 0; `none` is 'no place'), `same` tests two tables for equality, n is the
-- number of rows. What `let` binds is computed only where it is read, so a pass that changes nothing is the last. Assumes nothing.
use Rattle.std.specs.Prelude.{Bool, cond, ℕ, zero, suc}
use Rattle.std.proofs.Math.Option.{Option, some}
unfoldable pub use Rattle.std.proofs.Math.Option.{bind}

module _ {A : Type 0} (narrow : ℕ → A → Option A) where
  -- rows 0 to k − 1 narrowed in turn
  unfoldable pub pass : ℕ → A → Option A
  pass zero t = some t
  pass (suc k) t = bind (pass k t) (narrow k)

module _ {A : Type 0} (narrow : ℕ → A → Option A) (same : A → A → Bool) (n : ℕ) where
  -- passes until one changes nothing, f at most
  unfoldable pub rounds : ℕ → A → Option A
  rounds zero t = some t
  rounds (suc f) t = bind (pass narrow n t) (λ v. let more = rounds f v in cond (same v t) (some v) more)

module _ {A : Type 0} (narrow : ℕ → A → Option A) (same : A → A → Bool) (n : ℕ) (μ : A → ℕ) where
  -- as many passes as the measure of the table allows, and one more
  unfoldable pub settle_by : A → Option A
  settle_by t = rounds narrow same n (suc (μ t)) t
