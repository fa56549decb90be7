-- Cuts of areas: they compose, a loop of cuts is a cut by all its tests, and the cut of one dimension. Assumes nothing.
use mathlib.Core.Path.{◌≡◌, sym, ap, ap₂, ◌∙◌, subst}
use mathlib.Core.Logic.{⊎_elim}
use mathlib.Core.Bool.{Bool, true, false, cond, ◌&&◌, and_assoc}
use mathlib.Core.List.{List}
use Prim.Native.Nat.{ℕ, ◌+◌, ◌<◌}
use lib.IntN.{ℤ, pos}
use lib.ListN.{length, set}
use lib.Seq.{get_or-set_same, get_or-set_other}
use lib.Signed.{le_z}
use Rattle.integers.specs.Integer.{within, Within}
use Rattle.integers.specs.Below.{◌⇒◌, all_below}
use Rattle.integers.specs.Words.{word}
use Rattle.integers.proofs.Booleans.{both_ways, and-true, true-and, and_left, implies-in, implies-out}
use Rattle.integers.proofs.Below.{same_or, all-at, at_all, all-zero, all_more}
use Rattle.integers.proofs.Ints.{within-cut}
use Rattle.integers.proofs.Machine.{within_by}
use Rattle.points.specs.declared.Area.{Area}
use Rattle.points.specs.Area.{reach, max_z, min_z, in_at, in_area, Cuts}

-- ---- cuts compose
module _ {k : ℕ} {a : Area} where
  pub cuts-none : {F : List ℤ → Bool} → ((p : List ℤ) → F p ≡ true) → Cuts k a a F
  cuts-none h = record { is = λ p. and_left (in_area k a p) _ (λ e. h p); small = λ s. s }

  pub cuts-same : {c : Area} {F G : List ℤ → Bool} → ((p : List ℤ) → F p ≡ G p) → Cuts k a c F → Cuts k a c G
  cuts-same h f = record { is = λ p. f.is p ∙ ap (λ (x : Bool). in_area k a p && x) (h p); small = f.small }

  pub cuts-then : {b c : Area} {F G : List ℤ → Bool} → Cuts k a b F → Cuts k b c G → Cuts k a c (λ p. F p && G p)
  cuts-then {F} {G} f g = record {
    is = λ p. g.is p ∙ ap (λ (x : Bool). x && G p) (f.is p) ∙ and_assoc (in_area k a p) (F p) (G p);
    small = λ s. g.small (f.small s);
  }

  -- where a test t passes, and where it does not
  pub cuts-in : {c : Area} {F : List ℤ → Bool} {t : Bool} → t ≡ true → Cuts k a c F → Cuts k a c (λ p. t ⇒ F p)
  cuts-in {F} e f = cuts-same (λ p. sym (implies-in (F p) e)) f

  pub cuts-out : (F : List ℤ → Bool) {t : Bool} → t ≡ false → Cuts k a a (λ p. t ⇒ F p)
  cuts-out F e = cuts-none (λ p. implies-out (F p) e)

  -- a loop, before its first turn and after one more
  pub cuts-zero : (F : ℕ → List ℤ → Bool) → Cuts k a a (λ p. all_below 0 (λ m. F m p))
  cuts-zero F = cuts-none (λ p. all-zero (λ m. F m p))

  pub cuts-more : {b c : Area} {n : ℕ} (F : ℕ → List ℤ → Bool) → Cuts k a b (λ p. all_below n (λ m. F m p)) → Cuts k b c (F n)
      → Cuts k a c (λ p. all_below (n + 1) (λ m. F m p))
  cuts-more {n} F f g = cuts-same (λ p. sym (all_more n (λ m. F m p))) (cuts-then f g)

-- ---- the cut of one dimension
-- a test of all that asks more at one place
all-and : {k d : ℕ} (f g : ℕ → Bool) (x : Bool) → d < k → f d ≡ (g d && x) → ((e : ℕ) → (e ≡ d → ⊥) → f e ≡ g e)
    → all_below k f ≡ (all_below k g && x)
all-and {k} {d} f g x l here there = both_ways _ _ out back
  where
    at-d : f d ≡ true → (g d ≡ true) × (x ≡ true)
    at-d t = and-true (sym here ∙ t)

    out : all_below k f ≡ true → (all_below k g && x) ≡ true
    out t = true-and
        (at_all (λ e h. ⊎_elim (λ q. ap g q ∙ (at-d (all-at f t d l)).0) (λ n. sym (there e n) ∙ all-at f t e h) (same_or e d)))
        (at-d (all-at f t d l)).1

    back : (all_below k g && x) ≡ true → all_below k f ≡ true
    back t =
        let w : (all_below k g ≡ true) × (x ≡ true) = and-true t in
        at_all (λ e h. ⊎_elim
        (λ q. ap f q ∙ here ∙ true-and (all-at g w.0 d l) w.1) (λ n. there e n ∙ all-at g w.0 e h) (same_or e d))

-- bounds on words: of one of two, and of all in a run of which one is set
either-within : {n : ℕ} {a b : ℤ} (t : Bool) → Within n a → Within n b → Within n (cond t a b)
either-within true h k = h
either-within false h k = k

set-within : {n : ℕ} (l : List ℤ) (d : ℕ) {z : ℤ} → d < length l → Within n z → ((e : ℕ) → Within n (word l e))
    → (e : ℕ) → Within n (word (set l d z) e)
set-within {n} l d {z} h b f e =
    ⊎_elim
    (λ q. subst (λ (m : ℕ). Within n (word (set l d z) m)) (sym q) (within_by (get_or-set_same l d z (pos 0) h) b))
    (λ q. within_by (get_or-set_other l d e z (pos 0) q) (f e))
    (same_or e d)

-- an area whose bounds in dimension d are set to the larger and to the lesser of the old and the new ones
module _ (a : Area) (d : ℕ) (x y : ℤ) {low high : ℤ} (hl : d < length a.low) (hh : d < length a.high)
    (el : low ≡ max_z (word a.low d) x) (eh : high ≡ min_z (word a.high d) y) where
  abbrev cut : Area
  cut = record { low = set a.low d low; high = set a.high d high }

  cut-here : (z : ℤ) → in_at cut d z ≡ (in_at a d z && within x y z)
  unfolding in_at
  cut-here z =
      ap₂ (λ (l h : ℤ). within l h z) (get_or-set_same a.low d low (pos 0) hl ∙ el) (get_or-set_same a.high d high (pos 0) hh ∙ eh)
      ∙ within-cut (word a.low d) (word a.high d) x y z

  cut-there : (z : ℤ) (e : ℕ) → (e ≡ d → ⊥) → in_at cut e z ≡ in_at a e z
  unfolding in_at
  cut-there z e n = ap₂ (λ (l h : ℤ). within l h z) (get_or-set_other a.low d e low (pos 0) n) (get_or-set_other a.high d e high (pos 0) n)

  pub cuts-one : Within reach x → Within reach y → {k : ℕ} → d < k → Cuts k a cut (λ p. within x y (word p d))
  unfolding in_area
  cuts-one bx by l = record {
    is = λ p. all-and (λ e. in_at cut e (word p e)) (λ e. in_at a e (word p e)) (within x y (word p d)) l
        (cut-here (word p d)) (λ e n. cut-there (word p e) e n);
    small = λ s. record {
      lows = set-within a.low d hl (within_by el (either-within (le_z (word a.low d) x) bx (s.lows d))) s.lows;
      highs = set-within a.high d hh (within_by eh (either-within (le_z (word a.high d) y) (s.highs d) by)) s.highs;
    };
  }
