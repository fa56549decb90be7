-- The words of a sweep's state: the candidate lies in the range and before the jump point, and stays so where a word is
-- replaced, at the start and after a jump. `Anew j` says that from position j on the candidate is at the range's low end.
-- Assumes nothing.
use mathlib.Core.Path.{◌≡◌, sym, ap, ◌∙◌, subst}
use mathlib.Core.Logic.{⊎_elim}
use mathlib.Core.List.{List}
use Prim.Native.Nat.{ℕ, suc, ◌≤◌, ◌<◌}
use native.Mathlib.Omega.{arith}
use lib.IntN.{ℤ, pos}
use lib.Signed.{◌≤ℤ◌, ◌<ℤ◌, ≤ℤ_refl}
use lib.ListN.{length, set, length-set}
use lib.Seq.{get_or-set_same, get_or-set_other}
use Rattle.integers.specs.Words.{word}
use Rattle.integers.proofs.Below.{same_or}
use Rattle.integers.proofs.Ints.{ints, lin, v, ◌⊕◌}
use Rattle.points.specs.Area.{min_z}
use Rattle.sweep.specs.Point.{InBox, next, nexts}
use Rattle.sweep.specs.declared.Sweep.{Sweep}
use Rattle.sweep.specs.Moves.{begun, jumped_past, placed_at}
use Rattle.sweep.specs.Theorem.{Order}
use Rattle.sweep.proofs.Points.{length-nexts, word-nexts, length-lessers, word-lessers, below-lesser}
use Rattle.sweep.proofs.Cover.{at, Same, Anew}

-- l ≤ x ≤ h and x < y
pub record Placed (l h x y : ℤ) : Type 0 where
  pub from : l ≤ℤ x
  pub upto : x ≤ℤ h
  pub short : x <ℤ y

pub record State (k : ℕ) (low high : List ℤ) (s : Sweep) : Type 0 where
  pub candidate_long : k ≤ length s.candidate
  pub jump_long : k ≤ length s.jump
  pub placed : (i : ℕ) → i < k → Placed (word low i) (word high i) (word s.candidate i) (word s.jump i)

pub state-inside : {k : ℕ} {low high : List ℤ} {s : Sweep} → State k low high s → InBox k low high s.candidate
state-inside t = record { from = λ i h. (t.placed i h).from; upto = λ i h. (t.placed i h).upto }

-- ---- a word replaced
-- what holds of the new words in dimension i, and of the old ones in dimension m, holds of those in dimension m afterwards
set_both : (R : ℕ → ℤ → ℤ → Type 0) (c n : List ℤ) (i m : ℕ) (x y : ℤ) → i < length c → i < length n
    → R i x y → R m (word c m) (word n m) → R m (word (set c i x) m) (word (set n i y) m)
set_both R c n i m x y h g a b =
    ⊎_elim
    (λ (e : m ≡ i).
    subst (λ (q : ℕ). R q (word (set c i x) q) (word (set n i y) q)) (sym e)
    (rw (get_or-set_same c i x (pos 0) h, get_or-set_same n i y (pos 0) g) a))
    (λ d. rw (get_or-set_other c i m x (pos 0) d, get_or-set_other n i m y (pos 0) d) b)
    (same_or m i)

-- a word of the range for the candidate, and one past the range's end for the jump point
pub state-placed : {k : ℕ} {low high : List ℤ} {s : Sweep} → State k low high s → (i : ℕ) → i < k → (z : ℤ)
    → word low i ≤ℤ z → z ≤ℤ word high i → State k low high (placed_at i z (word high i) s)
unfolding placed_at
state-placed {k} {low} {high} {s} t i h z a b = record {
  candidate_long = simp length-set t.candidate_long;
  jump_long = simp length-set t.jump_long;
  placed = λ m u.
      set_both (λ (e : ℕ) (x y : ℤ). Placed (word low e) (word high e) x y) s.candidate s.jump i m z (next (word high i))
      (omega (arith, t.candidate_long)) (omega (arith, t.jump_long))
      (record { from = a; upto = b; short = omega (ints, lin (v (word high i) ⊕ v (pos 1))) })
      (t.placed m u);
}

module _ {k : ℕ} {order : ℕ → ℕ} (o : Order k order) {j : ℕ} (h : j < k) (p : List ℤ) (z : ℤ) where
  pub set_here : k ≤ length p → at order (set p (order j) z) j ≡ z
  set_here g = get_or-set_same p (order j) z (pos 0) (omega (arith, o.below j h))

  set_other : (m : ℕ) → m < k → (m ≡ j → ⊥) → at order (set p (order j) z) m ≡ at order p m
  set_other m u n = get_or-set_other p (order j) (order m) z (pos 0) (λ e. n (o.once m j u h e))

  pub set_same : Same order j (set p (order j) z) p
  set_same = record { same = λ m u. set_other m (omega arith) (omega arith) }

  pub anew-after : {low : List ℤ} → Anew k order low (suc j) p → Anew k order low (suc j) (set p (order j) z)
  anew-after a = record { anew = λ m u w. set_other m w (omega arith) ∙ a.anew m u w }

pub anew-again : {k : ℕ} {order : ℕ → ℕ} → Order k order → {j : ℕ} → j < k → (p low : List ℤ) → k ≤ length p
    → Anew k order low (suc j) p → Anew k order low j (set p (order j) (at order low j))
anew-again {k} {order} o {j} h p low g a = record {
  anew = λ m u w.
      ⊎_elim
      (λ (q : m ≡ j).
      subst (λ (e : ℕ). at order (set p (order j) (at order low j)) e ≡ at order low e) (sym q) (set_here o h p (at order low j) g))
      (λ q. (anew-after o h p (at order low j) a).anew m (omega arith) w)
      (same_or m j);
}

-- ---- the start, and a jump
pub state-begun : {k : ℕ} {low high : List ℤ} → k ≤ length low → k ≤ length high → InBox k low high low → State k low high (begun low high)
state-begun {high} l g b = record {
  candidate_long = l;
  jump_long = omega (arith, length-nexts high);
  placed = λ i h.
      let w = b.upto i h in
      let e = word-nexts high i (omega arith) in
      record { from = ≤ℤ_refl _; upto = w; short = omega (ints, lin (v (word high i) ⊕ v (pos 1))) };
}

module _ {k : ℕ} {low high : List ℤ} {s : Sweep} (t : State k low high s) (last : List ℤ) (g : k ≤ length last) where
  pub jumped-word : (i : ℕ) → i < k → word (jumped_past s last).jump i ≡ min_z (word s.jump i) (next (word last i))
  unfolding jumped_past
  jumped-word i h =
      word-lessers s.jump (nexts last) i (omega (arith, t.jump_long)) (omega (arith, length-nexts last))
      ∙ ap (min_z (word s.jump i)) (word-nexts last i (omega arith))

  -- the candidate is not past the last point
  pub state-jumped : ((i : ℕ) → i < k → word s.candidate i ≤ℤ word last i) → State k low high (jumped_past s last)
  unfolding jumped_past
  state-jumped b = record {
    candidate_long = t.candidate_long;
    jump_long = omega (arith, length-lessers s.jump (nexts last), length-nexts last, t.jump_long);
    placed = λ i h.
        let x = t.placed i h in
        let y = b i h in
        record {
          from = x.from;
          upto = x.upto;
          short = rw (jumped-word i h) (below-lesser (word s.jump i) (next (word last i)) (word s.candidate i) x.short
              (omega (ints, lin (v (word last i) ⊕ v (pos 1)))));
        };
  }
