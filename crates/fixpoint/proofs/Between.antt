-- What every way of settling keeps: the present table lies between the start and every settled table inside the start.
--   between_start   it does at the start
--   between_step    and after a row is narrowed
--   between-cut     and after start and present table are cut down alike
--   between_none    where a row has no place, no settled table lies inside the start
--   between-still   where no row moves, the present table is the greatest
--   way-start, way_step, way-cut, steps-way   the same of Way, which says also that the tables are good
-- Assumes nothing.
use mathlib.Core.Path.{◌≡◌}
use mathlib.Core.Bool.{Bool}
use mathlib.Core.Option.{Option, none, some}
use Prim.Native.Nat.{ℕ, ◌<◌}
use Rattle.fixpoint.specs.Finding as finding
use Rattle.fixpoint.specs.Laws.{Laws, Still}
use Rattle.fixpoint.specs.Run as run
use Rattle.fixpoint.specs.Run.{here, then}

module _ {A : Type 0} {Inside : A → A → Type 0} {Settled Good : A → Type 0}
    {narrow : ℕ → A → Option A} {same : A → A → Bool} {n : ℕ} {μ : A → ℕ}
    (L : Laws Inside Settled Good narrow same n μ) where
  -- the notions of specs/ for these laws
  abbrev Finds : A → Option A → Type 0
  Finds = finding.Finds Inside Settled

  abbrev Between : A → A → Type 0
  Between = finding.Between Inside Settled

  abbrev Way : A → A → Type 0
  Way = run.Way Inside Settled Good

  abbrev Steps : A → A → Type 0
  Steps = run.Steps narrow n

  abbrev Cut : (A → Type 0) → A → A → Type 0
  Cut = run.Cut Inside

  pub between_start : (t : A) → Between t t
  between_start t = record { below = L.rfl t; keeps = λ u s h. h }

  pub between_step : {i : ℕ} {t v w : A} → i < n → Good v → Between t v → narrow i v ≡ some w → Between t w
  between_step lt g b e =
      record {
        below = L.trans (L.shrinks lt g e) b.below;
        keeps = λ u s h. rw e at (L.keeps lt g s (b.keeps u s h));
      }

  pub between-cut : {P : A → Type 0} {t t' v v' : A} → Cut P t t' → Cut P v v' → Between t v → Between t' v'
  between-cut {v'} ct cv b =
      let own = (cv.cuts v').0 (L.rfl v') in
      record {
        below = (ct.cuts v').1 (L.trans own.0 b.below, own.1);
        keeps = λ u s h. (cv.cuts u).1 (b.keeps u s ((ct.cuts u).0 h).0, ((ct.cuts u).0 h).1);
      }

  pub between_none : {i : ℕ} {t v : A} → i < n → Good v → Between t v → narrow i v ≡ none → Finds t none
  between_none lt g b e u s h = rw e at (L.keeps lt g s (b.keeps u s h))

  pub between-still : {t v : A} → Good v → Between t v → Still narrow n v → Finds t (some v)
  between-still g b q = record { settled = L.still g q; within = b.below; holds = b.keeps }

  pub way-start : {t : A} → Good t → Way t t
  way-start {t} g = record { start = g; good = g; between = between_start t }

  pub way_step : {i : ℕ} {t v w : A} → i < n → Way t v → narrow i v ≡ some w → Way t w
  way_step lt p e =
      record { start = p.start; good = L.good lt p.good e; between = between_step lt p.good p.between e }

  pub way-cut : {P : A → Type 0} {t t' v v' : A} → Cut P t t' → Cut P v v' → Good t' → Good v' → Way t v → Way t' v'
  way-cut ct cv gt gv p = record { start = gt; good = gv; between = between-cut ct cv p.between }

  pub steps-way : {s t v : A} → Way s t → Steps t v → Way s v
  steps-way p here = p
  steps-way p (then q lt e) = way_step lt (steps-way p q) e
