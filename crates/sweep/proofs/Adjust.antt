-- One turn of AdjustUp: position j − 1 takes the jump point's word where that lies in the range, and starts again elsewhere.
-- The proof of the code and that of the theorem cite these two laws.
-- Assumes nothing.
use mathlib.Core.Path.{◌≡◌, refl, ap, ◌∙◌}
use mathlib.Core.Bool.{Bool, true, false, cond}
use mathlib.Core.List.{List}
use Prim.Native.Nat.{ℕ, zero, suc, ◌≤◌, ◌<◌}
use native.Mathlib.Omega.{arith}
use lib.IntN.{ℤ, pos}
use lib.ListN.{set}
use lib.Seq.{get_or-set_other}
use lib.Signed.{◌≤ℤ◌, ◌<ℤ◌, le_z}
use Rattle.integers.specs.Words.{word}
use Rattle.integers.proofs.Ints.{ints, test-of-le}
use Rattle.sweep.specs.declared.Sweep.{Sweep}
use Rattle.sweep.specs.Moves.{placed_at, advance}

module _ (order : ℕ → ℕ) (low high : List ℤ) (s : Sweep) where
  pub adjust-none : (j : ℕ) → j ≡ 0 → advance order low high j s ≡ record { candidate = s.candidate; jump = s.jump; live = false }
  unfolding advance
  adjust-none j e = ap (λ (n : ℕ). advance order low high n s) e

  pub adjust-found : (j m i : ℕ) → j ≡ suc m → i ≡ order m → word s.jump i ≤ℤ word high i
      → advance order low high j s ≡ placed_at i (word s.jump i) (word high i) s
  unfolding advance
  adjust-found j m i q e h = rw (q, ← e, test-of-le h)

  pub adjust-again : (j m i : ℕ) → j ≡ suc m → i ≡ order m → word high i <ℤ word s.jump i
      → advance order low high j s ≡ advance order low high m (placed_at i (word low i) (word high i) s)
  unfolding advance
  adjust-again j m i q e h = let t : le_z (word s.jump i) (word high i) ≡ false = omega ints in rw (q, ← e, t)

-- only dimensions of the order change: the words past k stay
pub advance-others : (order : ℕ → ℕ) (low high : List ℤ) (k j : ℕ) → ((m : ℕ) → m < j → order m < k) → (s : Sweep) (i : ℕ) → k ≤ i
    → word (advance order low high j s).candidate i ≡ word s.candidate i
unfolding advance placed_at
advance-others order low high k zero o s i h = refl
advance-others order low high k (suc j) o s i h =
    by (advance-others order low high k j (λ m u. o m (omega arith)) again i h) (le_z (word s.jump (order j)) (word high (order j)))
  where
    again : Sweep
    again = placed_at (order j) (word low (order j)) (word high (order j)) s

    other : (z : ℤ) → word (set s.candidate (order j) z) i ≡ word s.candidate i
    other z = get_or-set_other s.candidate (order j) i z (pos 0) (λ e. omega (arith, o j (omega arith)))

    by : word (advance order low high j again).candidate i ≡ word again.candidate i → (t : Bool)
        → word (cond t (placed_at (order j) (word s.jump (order j)) (word high (order j)) s) (advance order low high j again)).candidate i
        ≡ word s.candidate i
    by e true = other (word s.jump (order j))
    by e false = e ∙ other (word low (order j))
