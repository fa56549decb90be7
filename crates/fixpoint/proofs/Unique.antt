-- At most one finding: two findings for a good table are equal.
--   unique   Good t → Finds t r → Finds t s → r ≡ s
-- Assumes nothing.
use mathlib.Core.Path.{◌≡◌, refl, ap}
use mathlib.Core.Bool.{Bool}
use mathlib.Core.Option.{Option, none, some}
use Prim.Native.Nat.{ℕ}
use Rattle.fixpoint.specs.Finding as finding
use Rattle.fixpoint.specs.Laws.{Laws}

module _ {A : Type 0} {Inside : A → A → Type 0} {Settled Good : A → Type 0}
    {narrow : ℕ → A → Option A} {same : A → A → Bool} {n : ℕ} {μ : A → ℕ}
    (L : Laws Inside Settled Good narrow same n μ) where
  -- the notions of specs/ for these laws
  abbrev Finds : A → Option A → Type 0
  Finds = finding.Finds Inside Settled

  pub unique : {t : A} {r s : Option A} → Good t → Finds t r → Finds t s → r ≡ s
  unique {r = none} {s = none} ok a b = refl
  unique {r = none} {s = some g} ok a b = absurd (a g b.settled b.within)
  unique {r = some g} {s = none} ok a b = absurd (b g a.settled a.within)
  unique {r = some g} {s = some h} ok a b =
      ap some
      (L.antisym ok a.within b.within a.settled b.settled
      (b.holds g a.settled a.within) (a.holds h b.settled b.within))
