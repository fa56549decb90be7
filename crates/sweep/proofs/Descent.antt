-- AdjustUp down the positions: `adjust` shows that it finds a candidate that keeps the sweep's invariant and has fewer points
-- after it, or ends where every point of the range is bad. `Sweeping` is the invariant, `Going` holds on the way down.
-- Assumes nothing.
use mathlib.Core.Path.{◌≡◌, refl, sym, ap, subst}
use mathlib.Core.Logic.{◌⊎◌, inl, inr, ⊎_elim}
use mathlib.Core.Bool.{true, false}
use mathlib.Core.List.{List}
use Prim.Native.Nat.{ℕ, zero, suc, ◌≤◌, ◌<◌}
use native.Mathlib.Omega.{arith}
use lib.IntN.{ℤ}
use lib.Signed.{◌≤ℤ◌, ◌<ℤ◌, le_z, ≤ℤ_refl}
use Rattle.integers.proofs.Booleans.{decide}
use Rattle.integers.proofs.Ints.{ints}
use Rattle.sweep.specs.Point.{InBox, next}
use Rattle.sweep.specs.declared.Sweep.{Sweep}
use Rattle.sweep.specs.Moves.{placed_at, advance}
use Rattle.sweep.specs.Theorem.{Order, Range, points_after}
use Rattle.sweep.proofs.Adjust.{adjust-none, adjust-found, adjust-again}
use Rattle.sweep.proofs.Cover.{at, Anew, Covered, Cleared, cleared-none, cleared-again, covered-found}
use Rattle.sweep.proofs.State.{State, Placed, state-placed, set_here, set_same, anew-after, anew-again}
use Rattle.sweep.proofs.After.{after_same, after-up, after-again}

module _ (k : ℕ) (order : ℕ → ℕ) (low high : List ℤ) (Bad : List ℤ → Type 0) where
  pub record Sweeping (s : Sweep) : Type 0 where
    pub state : State k low high s
    pub covered : (p : List ℤ) → InBox k low high p → Covered order k s.candidate s.jump p → Bad p

  -- the positions below j are cleared, and those from j on start again
  pub record Going (j : ℕ) (s : Sweep) : Type 0 where
    pub live : s.live ≡ true
    pub state : State k low high s
    pub cleared : Cleared k order low high Bad j s.candidate s.jump
    pub anew : Anew k order low j s.candidate

  -- t is found from s, with the positions from j on as they were
  pub record Found (j : ℕ) (s t : Sweep) : Type 0 where
    pub live : t.live ≡ true
    pub sweeping : Sweeping t
    pub anew : Anew k order low j t.candidate
    pub falls : points_after order low high j t.candidate < points_after order low high j s.candidate

  pub record Ended (t : Sweep) : Type 0 where
    pub dead : t.live ≡ false
    pub bad : (p : List ℤ) → InBox k low high p → Bad p

  -- position j of s moves up to the jump, or starts again
  abbrev raised : ℕ → Sweep → Sweep
  raised j s = placed_at (order j) (at order s.jump j) (at order high j) s

  abbrev restarted : ℕ → Sweep → Sweep
  restarted j s = placed_at (order j) (at order low j) (at order high j) s

  module _ (range : Range k order low high) {j : ℕ} (h : j < k) {s : Sweep} (g : Going (suc j) s) where
    orders : Order k order
    orders = range.orders

    word-here : Placed (at order low j) (at order high j) (at order s.candidate j) (at order s.jump j)
    word-here = g.state.placed (order j) (orders.below j h)

    word_low : at order low j ≤ℤ at order high j
    word_low = range.filled.upto (order j) (orders.below j h)

    found_up : at order s.jump j ≤ℤ at order high j → Found (suc j) s (raised j s)
    unfolding placed_at
    found_up e =
        let up = at order s.jump j in
        let same = set_same orders h s.candidate up in
        let moved = set_here orders h s.candidate up g.state.candidate_long in
        let w = word-here in
        record {
          live = g.live;
          sweeping = record {
            state = state-placed g.state (order j) (orders.below j h) up (omega ints) e;
            covered = covered-found g.cleared same (set_same orders h s.jump (next (at order high j))) orders moved
                (anew-after orders h s.candidate up g.anew);
          };
          anew = anew-after orders h s.candidate up g.anew;
          falls = after-up order low high j same (omega ints) (omega ints);
        }

    going-down : at order high j <ℤ at order s.jump j → Going j (restarted j s)
    unfolding placed_at
    going-down e = record {
      live = g.live;
      state = state-placed g.state (order j) (orders.below j h) (at order low j) (≤ℤ_refl _) word_low;
      cleared = cleared-again g.cleared (set_same orders h s.candidate (at order low j))
          (set_same orders h s.jump (next (at order high j))) (orders.below j h) e;
      anew = anew-again orders h s.candidate low g.state.candidate_long g.anew;
    }

    found-down : {t : Sweep} → Found j (restarted j s) t → Found (suc j) s t
    unfolding placed_at
    found-down {t} f = record {
      live = f.live;
      sweeping = f.sweeping;
      anew = record { anew = λ m u w. f.anew.anew m (omega arith) w };
      falls = after-again order low high j s.candidate t.candidate
          (omega (arith, f.falls, after_same order low high j (set_same orders h s.candidate (at order low j))))
          (f.anew.anew j (omega arith) h) word_low;
    }

  pub adjust : Range k order low high → (j : ℕ) → j ≤ k → (s : Sweep) → Going j s
      → Found j s (advance order low high j s) ⊎ Ended (advance order low high j s)
  adjust range zero h s g =
      inr (record { dead = ap (λ (t : Sweep). t.live) (adjust-none order low high s 0 refl); bad = cleared-none g.cleared })
  adjust range (suc j) h s g = by (adjust range j (omega arith) (restarted j s)) (decide (le_z (at order s.jump j) (at order high j)))
    where
      by : (Going j (restarted j s)
          → Found j (restarted j s) (advance order low high j (restarted j s)) ⊎ Ended (advance order low high j (restarted j s)))
          → (le_z (at order s.jump j) (at order high j) ≡ true) ⊎ (le_z (at order s.jump j) (at order high j) ≡ false)
          → Found (suc j) s (advance order low high (suc j) s) ⊎ Ended (advance order low high (suc j) s)
      by rest (inl e) =
          inl (subst (Found (suc j) s) (sym (adjust-found order low high s (suc j) j (order j) refl refl (omega ints)))
          (found_up range h g (omega ints)))
      by rest (inr e) =
          subst (λ (t : Sweep). Found (suc j) s t ⊎ Ended t) (sym (adjust-again order low high s (suc j) j (order j) refl refl (omega ints)))
          (⊎_elim (λ f. inl (found-down range h g f)) inr (rest (going-down range h g (omega ints))))
