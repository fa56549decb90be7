-- What a caller of the sweep cites: `sweep-theorem` for the rotation of dimension d, the least coordinate by that dimension's
-- name, and that the candidate's words are near. The caller's loop has `Visited` (start, onward) as its invariant and `points_after`
-- as its measure; for the greatest coordinate the boxes are turned (`TurnedBox`, proofs/Mirror.antt).
-- Assumes nothing.
use mathlib.Core.Path.{◌≡◌, subst}
use mathlib.Core.Logic.{⊎_elim}
use mathlib.Core.Bool.{Bool, true}
use mathlib.Core.List.{List}
use Prim.Native.Nat.{ℕ, ◌≤◌, ◌<◌}
use native.Mathlib.Omega.{arith}
use lib.ListN.{length}
use lib.IntN.{ℤ}
use lib.Signed.{◌≤ℤ◌}
use Rattle.integers.specs.Words.{word}
use Rattle.integers.proofs.Below.{below_or}
use Rattle.integers.proofs.Machine.{within_by, within-between}
use Rattle.points.specs.Area.{coordinates}
use Rattle.sweep.specs.declared.Sweep.{Sweep}
use Rattle.sweep.specs.Point.{InBox, Near, turn, turned}
use Rattle.sweep.specs.Rotation.{rotation}
use Rattle.sweep.specs.Theorem.{Range, Visited, SweepTheorem}
use Rattle.sweep.proofs.Rotations.{rotation-order}
pub use Rattle.sweep.proofs.Rotations.{rotation-first}
use Rattle.sweep.proofs.Mirror.{word-turned, turn-word}
pub use Rattle.sweep.proofs.Theorem.{sweep-theorem}

-- the range of a sweep of dimension d
pub rotation-range : {k d : ℕ} {low high : List ℤ} → k ≤ coordinates → d < k → k ≤ length low → k ≤ length high → InBox k low high low
    → Range k (rotation k d) low high
rotation-range a h l g w = record { dims = omega arith; orders = rotation-order a h; low_long = l; high_long = g; filled = w }

module _ {k : ℕ} {order : ℕ → ℕ} {low high : List ℤ} {Bad : List ℤ → Type 0} {s : Sweep}
    (t : SweepTheorem k order low high Bad) (r : Visited k order low high Bad s) (l : s.live ≡ true) where
  -- the order's first dimension, by name
  pub least-in : {d : ℕ} → order 0 ≡ d → (p : List ℤ) → InBox k low high p → (Bad p → ⊥) → word s.candidate d ≤ℤ word p d
  least-in e p b n = subst (λ (i : ℕ). word s.candidate i ≤ℤ word p i) e (t.least r l p b n)

  -- the same where the sweep runs over turned points: p is the candidate turned, and so is any other point q
  pub least-turned : {d : ℕ} → order 0 ≡ d → (flip : Bool) {p : List ℤ} → p ≡ turned flip s.candidate → (q : List ℤ)
      → InBox k low high (turned flip q) → (Bad (turned flip q) → ⊥) → turn flip (word p d) ≤ℤ turn flip (word q d)
  least-turned {d} e flip f q b n =
      let w = least-in e (turned flip q) b n in
      rw (f, turn-word flip s.candidate d, ← word-turned flip q d) w

  -- every word of the candidate is near
  pub candidate-near : Near low → Near high → Near s.candidate
  candidate-near m n = record {
    near = λ i.
        ⊎_elim
        (λ h. let w = t.inside r l in within-between (m.near i) (n.near i) (w.from i h) (w.upto i h))
        (λ h. within_by (t.others r i h) (m.near i))
        (below_or i k);
  }
