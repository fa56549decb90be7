-- The sweep's theorem, `sweep-theorem`: the invariant holds at the start, and a jump over a region of bad points followed by an
-- advance keeps it, with fewer points after the candidate, or ends the sweep where every point is bad.
-- Assumes nothing.
use mathlib.Core.Path.{◌≡◌, sym, ap, ◌∙◌, subst}
use mathlib.Core.Logic.{◌⊎◌, inl, inr, ⊎_elim}
use mathlib.Core.Bool.{true, false}
use mathlib.Core.List.{List}
use Prim.Native.Nat.{ℕ, ◌≤◌, ◌<◌}
use native.Mathlib.Omega.{arith}
use lib.IntN.{ℤ}
use lib.Signed.{◌≤ℤ◌, le_z}
use Rattle.integers.specs.Words.{word}
use Rattle.integers.proofs.Booleans.{clash, decide}
use Rattle.integers.proofs.Ints.{ints}
use Rattle.sweep.specs.Point.{InBox, next}
use Rattle.sweep.specs.declared.Sweep.{Sweep}
use Rattle.sweep.specs.Moves.{begun, jumped_past}
use Rattle.sweep.specs.Theorem.{Range, Before, points_after, Step, Visited, start, onward, SweepTheorem}
use Rattle.sweep.proofs.Points.{lesser-below}
use Rattle.sweep.proofs.Adjust.{advance-others}
use Rattle.sweep.proofs.Cover.{at, cleared-jump, before-covered}
use Rattle.sweep.proofs.State.{state-inside, state-begun, state-jumped, jumped-word}
use Rattle.sweep.proofs.Descent.{Sweeping, Going, Found, Ended, adjust}

module _ {k : ℕ} {order : ℕ → ℕ} {low high : List ℤ} (range : Range k order low high) (Bad : List ℤ → Type 0) where
  -- ---- the start, and a step
  sweeping-begun : Sweeping k order low high Bad (begun low high)
  sweeping-begun = record {
    state = state-begun range.low_long range.high_long range.filled;
    covered = λ p b u. absurd (omega (ints, u.less, b.from (order u.place) (range.orders.below u.place u.below)));
  }

  module _ {s t : Sweep} (w : Sweeping k order low high Bad s) (u : Step k order low high Bad s t) where
    going-jumped : Going k order low high Bad k (jumped_past s u.last)
    unfolding jumped_past
    going-jumped = record {
      live = u.live;
      state = state-jumped w.state u.last u.long u.around.upto;
      cleared = cleared-jump range.orders
          (λ i h z q.
          lesser-below (word s.jump i) (next (word u.last i)) z (rw (jumped-word w.state u.last u.long i h) at q))
          u.around u.bad w.covered;
      anew = record { anew = λ m a b. absurd (omega arith) };
    }

    step-found : Found k order low high Bad k s t ⊎ Ended k order low high Bad t
    unfolding jumped_past
    step-found =
        subst (λ (r : Sweep). Found k order low high Bad k s r ⊎ Ended k order low high Bad r) (sym u.next)
        (⊎_elim (λ f. inl (record { live = f.live; sweeping = f.sweeping; anew = f.anew; falls = f.falls })) inr
        (adjust k order low high Bad range k (omega arith) (jumped_past s u.last) going-jumped))

  -- ---- the states that are visited
  visited-either : {s : Sweep} → Visited k order low high Bad s
      → (s.live ≡ true → Sweeping k order low high Bad s) × (s.live ≡ false → (p : List ℤ) → InBox k low high p → Bad p)
  visited-either (start e) =
      (λ l. subst (Sweeping k order low high Bad) (sym e) sweeping-begun, λ l. clash (ap (λ (s : Sweep). s.live) e) l)
  visited-either (onward r u) =
      ⊎_elim
      (λ f. (λ l. f.sweeping, λ l. clash f.live l))
      (λ f. (λ l. clash l f.dead, λ l. f.bad))
      (step-found ((visited-either r).0 u.live) u)

  visited-passed : {s : Sweep} → Visited k order low high Bad s → s.live ≡ true
      → (p : List ℤ) → InBox k low high p → Before k order p s.candidate → Bad p
  visited-passed r l p b w =
      let x = (visited-either r).0 l in
      x.covered p b (before-covered (λ m h. (x.state.placed (order m) (range.orders.below m h)).short) w)

  visited-least : {s : Sweep} → Visited k order low high Bad s → s.live ≡ true
      → (p : List ℤ) → InBox k low high p → (Bad p → ⊥) → at order s.candidate 0 ≤ℤ at order p 0
  visited-least {s} r l p b n =
      ⊎_elim
      (λ e. omega ints)
      (λ e. absurd (n (visited-passed r l p b (record { at = 0; place = range.dims; same = λ m h. absurd (omega arith); less = omega ints }))))
      (decide (le_z (at order s.candidate 0) (at order p 0)))

  visited-falls : {s t : Sweep} → Visited k order low high Bad s → Step k order low high Bad s t → t.live ≡ true
      → points_after order low high k t.candidate < points_after order low high k s.candidate
  visited-falls r u l = ⊎_elim (λ f. f.falls) (λ f. clash l f.dead) (step-found ((visited-either r).0 u.live) u)

  visited-others : {s : Sweep} → Visited k order low high Bad s → (i : ℕ) → k ≤ i → word s.candidate i ≡ word low i
  unfolding jumped_past
  visited-others (start e) i h = ap (λ (s : Sweep). word s.candidate i) e
  visited-others (onward r u) i h =
      ap (λ (s : Sweep). word s.candidate i) u.next
      ∙ advance-others order low high k k range.orders.below (jumped_past _ u.last) i h
      ∙ visited-others r i h

  pub sweep-theorem : SweepTheorem k order low high Bad
  sweep-theorem = record {
    inside = λ r l. state-inside ((visited-either r).0 l).state;
    passed = visited-passed;
    least = visited-least;
    exhausted = λ r l. (visited-either r).1 l;
    falls = visited-falls;
    others = visited-others;
  }
