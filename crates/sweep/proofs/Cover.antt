-- The mathematics of the sweep: which points a candidate c and a jump point n account for. Positions are those of the order.
--     Covered j c n p    at some position below j the point p is less than c, and at those before it p lies from c up to n
--     Cleared j c n      every point of the range is bad that is covered at the first j positions, or lies from c up to n there
-- A sweep keeps: each covered point is bad. A jump over a region of bad points gives `Cleared k`; a position that is exhausted
-- takes `Cleared (suc j)` to `Cleared j`; one that moves up keeps the sweep's invariant; `Cleared 0` says that all are bad.
-- Assumes nothing.
use mathlib.Core.Path.{◌≡◌, sym, subst}
use mathlib.Core.Logic.{◌⊎◌, inl, inr, ⊎_elim}
use mathlib.Core.List.{List}
use Prim.Native.Nat.{ℕ, suc, ◌≤◌, ◌<◌}
use native.Mathlib.Omega.{arith}
use lib.IntN.{ℤ, pos}
use lib.Signed.{◌≤ℤ◌, ◌<ℤ◌, lt_z}
use Rattle.integers.specs.Words.{word}
use Rattle.integers.proofs.Booleans.{decide}
use Rattle.integers.proofs.Below.{below_or, last_or}
use Rattle.integers.proofs.Ints.{ints, lin, v, ◌⊕◌}
use Rattle.sweep.specs.Point.{InBox, next}
use Rattle.sweep.specs.Theorem.{Order, Before}

-- a point's word at a position of the order
abbrev pub at : (ℕ → ℕ) → List ℤ → ℕ → ℤ
at order p m = word p (order m)

-- the two points have the same words at the first j positions
pub record Same (order : ℕ → ℕ) (j : ℕ) (p q : List ℤ) : Type 0 where
  pub same : (m : ℕ) → m < j → at order p m ≡ at order q m

-- from position j on, c is at the range's low end
pub record Anew (k : ℕ) (order : ℕ → ℕ) (low : List ℤ) (j : ℕ) (c : List ℤ) : Type 0 where
  pub anew : (m : ℕ) → j ≤ m → m < k → at order c m ≡ at order low m

-- c ≤ p < n at the first j positions
pub record Between (order : ℕ → ℕ) (j : ℕ) (c n p : List ℤ) : Type 0 where
  pub from : (m : ℕ) → m < j → at order c m ≤ℤ at order p m
  pub upto : (m : ℕ) → m < j → at order p m <ℤ at order n m

pub record Covered (order : ℕ → ℕ) (j : ℕ) (c n p : List ℤ) : Type 0 where
  pub place : ℕ
  pub below : place < j
  pub before : Between order place c n p
  pub less : at order p place <ℤ at order c place

pub record Cleared (k : ℕ) (order : ℕ → ℕ) (low high : List ℤ) (Bad : List ℤ → Type 0) (j : ℕ) (c n : List ℤ) : Type 0 where
  pub covered : (p : List ℤ) → InBox k low high p → Covered order j c n p → Bad p
  pub between : (p : List ℤ) → InBox k low high p → Between order j c n p → Bad p

-- ---- positions
pub between_none : {order : ℕ → ℕ} {c n p : List ℤ} → Between order 0 c n p
between_none = record { from = λ m h. absurd (omega arith); upto = λ m h. absurd (omega arith) }

module _ {order : ℕ → ℕ} {j : ℕ} {c n p : List ℤ} where
  between_more : Between order j c n p → at order c j ≤ℤ at order p j → at order p j <ℤ at order n j → Between order (suc j) c n p
  between_more b h g = record {
    from = λ m u. ⊎_elim (λ (e : m ≡ j). subst (λ (i : ℕ). at order c i ≤ℤ at order p i) (sym e) h) (b.from m) (last_or u);
    upto = λ m u. ⊎_elim (λ (e : m ≡ j). subst (λ (i : ℕ). at order p i <ℤ at order n i) (sym e) g) (b.upto m) (last_or u);
  }

  -- before n at one position more, it is below c there, or from c up to n
  covered-or : Between order j c n p → at order p j <ℤ at order n j → Covered order (suc j) c n p ⊎ Between order (suc j) c n p
  covered-or b h =
      ⊎_elim
      (λ e. inl (record { place = j; below = omega arith; before = b; less = omega ints }))
      (λ e. inr (between_more b (omega ints) h))
      (decide (lt_z (at order p j) (at order c j)))

  covered_more : Covered order j c n p → Covered order (suc j) c n p
  covered_more w = record { place = w.place; below = omega (arith, w.below); before = w.before; less = w.less }

between-same : {order : ℕ → ℕ} {j : ℕ} {c n c' n' p : List ℤ} → Same order j c' c → Same order j n' n
    → Between order j c' n' p → Between order j c n p
between-same s t b = record { from = λ m h. omega (ints, b.from m h, s.same m h); upto = λ m h. omega (ints, b.upto m h, t.same m h) }

pub same-less : {order : ℕ → ℕ} {i j : ℕ} {p q : List ℤ} → i ≤ j → Same order j p q → Same order i p q
same-less h s = record { same = λ m u. s.same m (omega arith) }

covered_same : {order : ℕ → ℕ} {i j : ℕ} {c n c' n' p : List ℤ} → Same order j c' c → Same order j n' n
    → (w : Covered order i c' n' p) → w.place < j → Covered order j c n p
covered_same s t w h = record {
  place = w.place;
  below = h;
  before = between-same (same-less (omega arith) s) (same-less (omega arith) t) w.before;
  less = omega (ints, w.less, s.same w.place h);
}

-- what holds at each position holds in each dimension
each-dim : {k : ℕ} {order : ℕ → ℕ} → Order k order → (P : ℕ → Type 0) → ((m : ℕ) → m < k → P (order m))
    → (i : ℕ) → i < k → P i
each-dim o P f i h = let w = o.every i h in subst P w.2 (f w.0 w.1)

-- ---- what a cleared state gives
module _ {k : ℕ} {order : ℕ → ℕ} {low high : List ℤ} {Bad : List ℤ → Type 0} where
  -- position 0 is reached: every point is bad
  pub cleared-none : {c n : List ℤ} → Cleared k order low high Bad 0 c n → (p : List ℤ) → InBox k low high p → Bad p
  cleared-none w p b = w.between p b between_none

  module _ {j : ℕ} {c n c' n' : List ℤ} (w : Cleared k order low high Bad (suc j) c n) (s : Same order j c' c) (t : Same order j n' n) where
    cleared-upto : (p : List ℤ) → InBox k low high p → Between order j c n p → at order p j <ℤ at order n j → Bad p
    cleared-upto p b u h = ⊎_elim (w.covered p b) (w.between p b) (covered-or u h)

    -- position j is exhausted
    pub cleared-again : order j < k → at order high j <ℤ at order n j → Cleared k order low high Bad j c' n'
    cleared-again o h = record {
      covered = λ p b u. w.covered p b (covered_more (covered_same s t u u.below));
      between = λ p b u. cleared-upto p b (between-same s t u) (omega (ints, b.upto (order j) o));
    }

    -- position j moves up to the jump, and the positions after it start again
    pub covered-found : Order k order → at order c' j ≡ at order n j → Anew k order low (suc j) c'
        → (p : List ℤ) → InBox k low high p → Covered order k c' n' p → Bad p
    covered-found o e a p b u =
        ⊎_elim
        (λ h. w.covered p b (covered_more (covered_same s t u h)))
        (λ h. ⊎_elim (λ g. late g) (λ g. here (omega arith)) (below_or j u.place))
        (below_or u.place j)
      where
        late : j < u.place → Bad p
        late h = absurd (omega (ints, u.less, a.anew u.place h u.below, b.from (order u.place) (o.below u.place u.below)))

        here : u.place ≡ j → Bad p
        here q = cleared-upto p b (between-same s t (subst (λ (m : ℕ). Between order m c' n' p) q u.before))
            (let g : at order p j <ℤ at order c' j = subst (λ (m : ℕ). at order p m <ℤ at order c' m) q u.less in omega ints)

  -- a jump: n' is no further than n and than the end of a region around c that holds only bad points
  pub cleared-jump : {c n n' first last : List ℤ} → Order k order
      → ((i : ℕ) → i < k → (z : ℤ) → z <ℤ word n' i → (z <ℤ word n i) × (z <ℤ next (word last i)))
      → InBox k first last c → ((p : List ℤ) → InBox k low high p → InBox k first last p → Bad p)
      → ((p : List ℤ) → InBox k low high p → Covered order k c n p → Bad p)
      → Cleared k order low high Bad k c n'
  cleared-jump {c} {n} {n'} {first} {last} o l a r w = record {
    covered = λ p b u. w p b (record {
      place = u.place;
      below = u.below;
      less = u.less;
      before = record {
        from = u.before.from;
        upto = λ m h. (l (order m) (o.below m (omega (arith, u.below))) (at order p m) (u.before.upto m h)).0;
      };
    });
    between = λ p b u. r p b (record {
      from = λ i h. omega (ints, a.from i h, each-dim o (λ (e : ℕ). word c e ≤ℤ word p e) u.from i h);
      upto = λ i h.
          let g = (l i h (word p i) (each-dim o (λ (e : ℕ). word p e <ℤ word n' e) u.upto i h)).1 in
          omega (ints, lin (v (word last i) ⊕ v (pos 1)));
    });
  }

-- a point before the candidate is covered
pub before-covered : {k : ℕ} {order : ℕ → ℕ} {c n p : List ℤ} → ((m : ℕ) → m < k → at order c m <ℤ at order n m)
    → Before k order p c → Covered order k c n p
before-covered h w = record {
  place = w.at;
  below = w.place;
  less = w.less;
  before = record {
    from = λ m u. omega (ints, w.same m u);
    upto = λ m u. omega (ints, w.same m u, h m (omega (arith, w.place)));
  };
}
