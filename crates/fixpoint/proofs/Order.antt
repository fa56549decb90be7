-- No order of the rows alters what settling finds.
--   order-settles   steps in any order that end with no row moving end at what settle_by finds
--   order-none      steps in any order that meet a row with no place: settle_by finds none
--   any_order       two orders that end with no row moving end at one table
--   no-other-end    where one order so ends, no other meets a row with no place
-- Assumes nothing.
use mathlib.Core.Path.{◌≡◌, sym, ◌∙◌}
use mathlib.Core.Bool.{Bool}
use mathlib.Core.Option.{Option, none, some, some-injective, none-ne-some}
use Prim.Native.Nat.{ℕ, ◌<◌}
use Rattle.fixpoint.specs.Passes as passes
use Rattle.fixpoint.specs.Laws.{Laws, Still}
use Rattle.fixpoint.specs.Run as run
use Rattle.fixpoint.proofs.Between.{way-start, steps-way}
use Rattle.fixpoint.proofs.Settle.{settles-none, settles-some}

module _ {A : Type 0} {Inside : A → A → Type 0} {Settled Good : A → Type 0}
    {narrow : ℕ → A → Option A} {same : A → A → Bool} {n : ℕ} {μ : A → ℕ}
    (L : Laws Inside Settled Good narrow same n μ) where
  -- the notions of specs/ for these laws
  abbrev Steps : A → A → Type 0
  Steps = run.Steps narrow n

  abbrev settle_by : A → Option A
  settle_by = passes.settle_by narrow same n μ

  pub order-settles : {t v : A} → Good t → Steps t v → Still narrow n v → settle_by t ≡ some v
  order-settles g p q = settles-some L (steps-way L (way-start L g) p) q

  pub order-none : {i : ℕ} {t v : A} → Good t → Steps t v → i < n → narrow i v ≡ none → settle_by t ≡ none
  order-none g p lt e = settles-none L lt (steps-way L (way-start L g) p) e

  pub any_order : {t v w : A} → Good t → Steps t v → Steps t w → Still narrow n v → Still narrow n w → v ≡ w
  any_order {v} {w} g p q a b = some-injective v w (sym (order-settles g p a) ∙ order-settles g q b)

  pub no-other-end : {i : ℕ} {t v w : A} → Good t → Steps t v → Steps t w → Still narrow n v → i < n → narrow i w ≡ none → ⊥
  no-other-end {v} g p q a lt e = none-ne-some v (sym (order-none g q lt e) ∙ order-settles g p a)
