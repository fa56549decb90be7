-- Open runs (document 02, T-08): rows narrowed in turn, tightenings among the steps, and the two ends.
--   run-open      opening on a good table
--   run_moved     a step that moved something
--   run-quiet     a step that moved nothing
--   run-cut       a tightening: start and present table are cut down alike
--   run_none      a row with no place: settling the start, as cut down since, finds none
--   run_settled   the quiet count would reach n: settling the start, as cut down since, leaves the present table
-- Assumes nothing.
use mathlib.Core.Path.{◌≡◌}
use mathlib.Core.Logic.{◌⊎◌, inl, inr, ⊎_elim}
use mathlib.Core.Bool.{Bool}
use mathlib.Core.Option.{Option, none, some}
use Prim.Native.Nat.{ℕ, zero, suc, ◌<◌}
use native.Mathlib.Decide.{dec_lt, ℕ_discrete}
use native.Mathlib.Nat.{not-suc-le-zero}
use native.Mathlib.Omega.{arith}
use Rattle.fixpoint.specs.Passes as passes
use Rattle.fixpoint.specs.Laws.{Laws}
use Rattle.fixpoint.specs.Run as run
use Rattle.fixpoint.specs.Run.{Way, Cut, Turn, on, over, Recent, before, around}
use Rattle.fixpoint.proofs.Between.{way-start, way_step, way-cut}
use Rattle.fixpoint.proofs.Settle.{settles-none, settles-some}

-- ---- rows in turn

module _ {n : ℕ} where
  turn-row : {next m : ℕ} → next < n → Turn n next m → m < n
  turn-row lt (on h) = h
  turn-row lt (over h) = omega arith

  none-recent : {next i : ℕ} → i < n → Recent n next 0 i → ⊥
  none-recent lt (before l m) = omega arith
  none-recent lt (around l m) = omega arith

  all-recent : {next i : ℕ} → next < n → i < n → Recent n next n i
  all-recent {next} {i} h lt = go (dec_lt i next)
    where
      go : Dec (i < next) → Recent n next n i
      go (yes l) = before l (omega arith)
      go (no l) = around (omega arith) (omega arith)

  -- one step on, the recent rows are those that were, and the row of the step
  recent-but : {next m q i : ℕ} → i < n → (i ≡ next → ⊥) → Turn n next m → Recent n m (suc q) i → Recent n next q i
  recent-but lt z (on h) (before l a) = before (omega arith) (omega arith)
  recent-but lt z (on h) (around l a) = around (omega arith) (omega arith)
  recent-but lt z (over h) (before l a) = absurd (not-suc-le-zero l)
  recent-but lt z (over h) (around l a) = before (omega arith) (omega arith)

  recent-step : {next m q i : ℕ} → i < n → Turn n next m → Recent n m (suc q) i → (i ≡ next) ⊎ Recent n next q i
  recent-step {next} {m} {q} {i} lt tu r = go (ℕ_discrete i next)
    where
      go : Dec (i ≡ next) → (i ≡ next) ⊎ Recent n next q i
      go (yes z) = inl z
      go (no z) = inr (recent-but lt z tu r)

-- ---- runs

module _ {A : Type 0} {Inside : A → A → Type 0} {Settled Good : A → Type 0}
    {narrow : ℕ → A → Option A} {same : A → A → Bool} {n : ℕ} {μ : A → ℕ}
    (L : Laws Inside Settled Good narrow same n μ) where
  -- the notions of specs/ for these laws
  abbrev Run : A → A → ℕ → ℕ → Type 0
  Run = run.Run Inside Settled Good narrow n

  abbrev settle_by : A → Option A
  settle_by = passes.settle_by narrow same n μ

  -- a run whose count is 0
  fresh : {t v : A} {next : ℕ} → Way Inside Settled Good t v → next < n → Run t v next 0
  fresh p lt = record { way = p; next_row = lt; quiet = λ i h c. absurd (none-recent h c) }

  pub run-open : {t : A} → 0 < n → Good t → Run t t 0 0
  run-open lt g = fresh (way-start L g) lt

  pub run_moved : {t v w : A} {next q m : ℕ} → Run t v next q → narrow next v ≡ some w → Turn n next m → Run t w m 0
  run_moved r e tu = fresh (way_step L r.next_row r.way e) (turn-row r.next_row tu)

  pub run-quiet : {t v : A} {next q m : ℕ} → Run t v next q → narrow next v ≡ some v → Turn n next m → Run t v m (suc q)
  run-quiet r e tu =
      record {
        way = r.way;
        next_row = turn-row r.next_row tu;
        quiet = λ i h c. ⊎_elim (λ z. rw z e) (r.quiet i h) (recent-step h tu c);
      }

  pub run-cut : {P : A → Type 0} {t t' v v' : A} {next q : ℕ} → Cut Inside P t t' → Cut Inside P v v' → Good t' → Good v'
      → Run t v next q → Run t' v' next 0
  run-cut ct cv gt gv r = fresh (way-cut L ct cv gt gv r.way) r.next_row

  pub run_none : {t v : A} {next q : ℕ} → Run t v next q → narrow next v ≡ none → settle_by t ≡ none
  run_none r e = settles-none L r.next_row r.way e

  -- there is a row after each
  next-turn : {next : ℕ} → next < n → (m : ℕ) × Turn n next m
  next-turn {next} lt = go (dec_lt (suc next) n)
    where
      go : Dec (suc next < n) → (m : ℕ) × Turn n next m
      go (yes l) = (suc next, on l)
      go (no l) = (zero, over (omega arith))

  pub run_settled : {t v : A} {next q : ℕ} → Run t v next q → narrow next v ≡ some v → suc q ≡ n → settle_by t ≡ some v
  run_settled {t} {v} {next} {q} r e h =
      let m = next-turn r.next_row in
      let r' : Run t v m.0 n = rw h at (run-quiet r e m.1) in
      settles-some L r.way (λ i lt. r'.quiet i lt (all-recent r'.next_row lt))
