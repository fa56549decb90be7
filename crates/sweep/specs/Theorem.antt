-- What the sweep finds, for every number k of dimensions, every order of them and any set of bad points: `SweepTheorem`, the
-- last record. `Visited` are the states of a sweep each of whose steps jumps over a region of bad points.
-- Assumes nothing.
use Rattle.std.specs.Prelude.{◌≡◌, true, false, List, ℕ, zero, suc, ◌+◌, ◌*◌, ◌≤◌, ◌<◌, length, ℤ, ◌-ℤ◌, ◌≤ℤ◌, ◌<ℤ◌}
use Rattle.integers.specs.Integer.{nat, width}
use Rattle.integers.specs.Words.{word}
use Rattle.sweep.specs.Point.{InBox}
use Rattle.sweep.specs.declared.Sweep.{Sweep}
use Rattle.sweep.specs.Moves.{begun, jumped_past, advance}

-- an order of the k dimensions: position m has dimension order m, and each dimension has one position
pub record Order (k : ℕ) (order : ℕ → ℕ) : Type 0 where
  pub below : (m : ℕ) → m < k → order m < k
  pub once : (m n : ℕ) → m < k → n < k → order m ≡ order n → m ≡ n
  pub every : (i : ℕ) → i < k → (m : ℕ) × (m < k) × (order m ≡ i)

-- what is swept: the points from low to high in at least one dimension, of which there is one
pub record Range (k : ℕ) (order : ℕ → ℕ) (low high : List ℤ) : Type 0 where
  pub dims : 0 < k
  pub orders : Order k order
  pub low_long : k ≤ length low
  pub high_long : k ≤ length high
  pub filled : InBox k low high low

-- p comes before q in the order: less at some position, and equal at those before it
pub record Before (k : ℕ) (order : ℕ → ℕ) (p q : List ℤ) : Type 0 where
  pub at : ℕ
  pub place : at < k
  pub same : (m : ℕ) → m < at → word p (order m) ≡ word q (order m)
  pub less : word p (order at) <ℤ word q (order at)

-- how many points from low to high come after p in the order, by their first k positions
unfoldable pub points_after : (ℕ → ℕ) → List ℤ → List ℤ → ℕ → List ℤ → ℕ
points_after order low high zero p = 0
points_after order low high (suc k) p =
    let i = order k in
    points_after order low high k p * width (word low i) (word high i) + nat (word high i -ℤ word p i)

module _ (k : ℕ) (order : ℕ → ℕ) (low high : List ℤ) (Bad : List ℤ → Type 0) where
  -- a step from s to t: the region from first to last lies around the candidate and holds no point of the range but bad
  -- ones; the sweep jumps past it and advances
  pub record Step (s t : Sweep) : Type 0 where
    pub live : s.live ≡ true
    pub first : List ℤ
    pub last : List ℤ
    pub long : k ≤ length last
    pub around : InBox k first last s.candidate
    pub bad : (p : List ℤ) → InBox k low high p → InBox k first last p → Bad p
    pub next : t ≡ advance order low high k (jumped_past s last)

  pub data Visited : Sweep → Type 0 where
    start : {s : Sweep} → s ≡ begun low high → Visited s
    onward : {s t : Sweep} → Visited s → Step s t → Visited t

  pub record SweepTheorem : Type 0 where
    -- while the sweep is live, its candidate is a point of the range
    pub inside : {s : Sweep} → Visited s → s.live ≡ true → InBox k low high s.candidate
    -- and it has passed none but bad points
    pub passed : {s : Sweep} → Visited s → s.live ≡ true → (p : List ℤ) → InBox k low high p → Before k order p s.candidate → Bad p
    -- so no other point has a lesser coordinate in the dimension that is pruned, the first of the order
    pub least : {s : Sweep} → Visited s → s.live ≡ true → (p : List ℤ) → InBox k low high p → (Bad p → ⊥)
        → word s.candidate (order 0) ≤ℤ word p (order 0)
    -- once it is exhausted, every point of the range is bad
    pub exhausted : {s : Sweep} → Visited s → s.live ≡ false → (p : List ℤ) → InBox k low high p → Bad p
    -- each step leaves fewer points after the candidate
    pub falls : {s t : Sweep} → Visited s → Step s t → t.live ≡ true
        → points_after order low high k t.candidate < points_after order low high k s.candidate
    -- the candidate's words past the k dimensions are those of the range's low end
    pub others : {s : Sweep} → Visited s → (i : ℕ) → k ≤ i → word s.candidate i ≡ word low i
