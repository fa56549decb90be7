-- Areas in runs of words: an area is told word by word (`area-is`) and kept where its words are (`area-kept`); words written elsewhere; two
-- ends that are set are two bounds that are set (`ends_set`), and so a cut of one dimension (`ends-cut`). Assumes nothing.
use mathlib.Core.Path.{◌≡◌, refl, sym, ap, ap₂, ◌∙◌, subst}
use mathlib.Core.Logic.{◌⊎◌, inl, inr, ⊎_elim}
use mathlib.Core.List.{List}
use Prim.Native.Nat.{ℕ, ◌+◌, ◌-◌, ◌≤◌, ◌<◌}
use native.Mathlib.Omega.{arith}
use lib.IntN.{ℤ, pos}
use lib.ListN.{length, set, take, drop, length-set, length-drop}
use lib.Seq.{get_or-set_same, get_or-set_other, get_or-take, get_or-drop, length-take-le}
use Rattle.integers.specs.Integer.{within, Within}
use Rattle.integers.specs.Words.{word, list_below}
use Rattle.integers.proofs.Below.{same_or}
use Rattle.integers.proofs.Lists.{words-ext, length-list_below, get_or-list_below}
use Rattle.points.specs.declared.Area.{Area}
use Rattle.points.specs.Area.{coordinates, reach, area_words, max_z, min_z, area_by, Cuts, area_of, area_at}
use Rattle.points.specs.Ends.{SameBut}
use Rattle.points.proofs.Cut.{cuts-one}

-- ---- words written between two places
pub same_none : (at n : ℕ) (l : List ℤ) → SameBut at n l l
same_none at n l = record { long = refl; words = λ x h. refl }

pub same_set : {at n : ℕ} {l m : List ℤ} (k : ℕ) (w : ℤ) → SameBut at n l m → at ≤ k → k < at + n → SameBut at n l (set m k w)
same_set {m} k w s f u = record {
  long = length-set m k w ∙ s.long;
  words = λ x h. get_or-set_other m k x w (pos 0) (λ e. ⊎_elim (λ b. omega arith) (λ b. omega arith) h) ∙ s.words x h;
}

-- within a run that was written too
pub same_then : {at n from few : ℕ} {l m k : List ℤ} → SameBut at n l m → SameBut from few m k → at ≤ from → from + few ≤ at + n
    → SameBut at n l k
same_then s t f u = record {
  long = t.long ∙ s.long;
  words = λ x h. t.words x (⊎_elim (λ b. inl (omega arith)) (λ b. inr (omega arith)) h) ∙ s.words x h;
}

-- ---- an area, word by word
module _ (l : List ℤ) where
  pub low-long : length (area_of l).low ≡ coordinates
  unfolding area_of
  low-long = length-list_below coordinates (word l)

  pub high-long : length (area_of l).high ≡ coordinates
  unfolding area_of
  high-long = length-list_below coordinates (λ d. word l (coordinates + d))

  pub low_of : {d : ℕ} → d < coordinates → word (area_of l).low d ≡ word l d
  unfolding area_of
  low_of h = get_or-list_below (word l) (pos 0) h

  pub high-of : {d : ℕ} → d < coordinates → word (area_of l).high d ≡ word l (coordinates + d)
  unfolding area_of
  high-of h = get_or-list_below (λ d. word l (coordinates + d)) (pos 0) h

  pub ends-are : (a : Area) → length a.low ≡ coordinates → length a.high ≡ coordinates
      → ((d : ℕ) → d < coordinates → word l d ≡ word a.low d)
      → ((d : ℕ) → d < coordinates → word l (coordinates + d) ≡ word a.high d) → area_of l ≡ a
  ends-are a m n f g = ap₂ area_by
      (words-ext (low-long ∙ sym m) (λ d h. let k : d < coordinates = omega (arith, low-long) in low_of k ∙ f d k))
      (words-ext (high-long ∙ sym n) (λ d h. let k : d < coordinates = omega (arith, high-long) in high-of k ∙ g d k))

-- ---- an area in a longer run
module _ (l : List ℤ) (at : ℕ) where
  pub low_word : {d : ℕ} → d < coordinates → word (area_at l at).low d ≡ word l (at + d)
  low_word {d} h = low_of (drop at l) h ∙ get_or-drop at l d (pos 0)

  shifted : (d : ℕ) → word (drop at l) (coordinates + d) ≡ word l (at + coordinates + d)
  shifted d = get_or-drop at l (coordinates + d) (pos 0) ∙ ap (word l) (omega arith)

  pub high_word : {d : ℕ} → d < coordinates → word (area_at l at).high d ≡ word l (at + coordinates + d)
  high_word {d} h = high-of (drop at l) h ∙ shifted d

  pub area-is : (a : Area) → length a.low ≡ coordinates → length a.high ≡ coordinates
      → ((d : ℕ) → d < coordinates → word l (at + d) ≡ word a.low d)
      → ((d : ℕ) → d < coordinates → word l (at + coordinates + d) ≡ word a.high d) → area_at l at ≡ a
  area-is a m n f g =
      ends-are (drop at l) a m n (λ d h. get_or-drop at l d (pos 0) ∙ f d h) (λ d h. shifted d ∙ g d h)

  -- its two halves as parts of the run
  pub area-parts : (half end : ℕ) → half ≡ at + coordinates → end ≡ at + area_words → end ≤ length l
      → area_at l at ≡ area_by (take (half - at) (drop at l)) (take (end - half) (drop half l))
  area-parts half end h e k =
      let n : half - at ≡ coordinates = omega arith in
      let m : end - half ≡ coordinates = omega arith in
      area-is (area_by (take (half - at) (drop at l)) (take (end - half) (drop half l)))
      (length-take-le (half - at) (drop at l) (omega (arith, length-drop at l)) ∙ n)
      (length-take-le (end - half) (drop half l) (omega (arith, length-drop half l)) ∙ m)
      (λ d b. sym (get_or-take (half - at) (drop at l) d (pos 0) (omega arith) ∙ get_or-drop at l d (pos 0)))
      (λ d b. ap (λ (x : ℕ). word l (x + d)) (sym h)
      ∙ sym (get_or-take (end - half) (drop half l) d (pos 0) (omega arith) ∙ get_or-drop half l d (pos 0)))

pub area-kept : {at n : ℕ} {l l' : List ℤ} (a : ℕ) → SameBut at n l l' → (a + area_words ≤ at) ⊎ (at + n ≤ a) → area_at l' a ≡ area_at l a
area-kept {at} {n} {l} {l'} a s o =
    area-is l' a (area_at l a) (low-long (drop a l)) (high-long (drop a l))
    (λ d h. s.words (a + d) (⊎_elim (λ b. inl (omega arith)) (λ b. inr (omega arith)) o) ∙ sym (low_word l a h))
    (λ d h. s.words (a + coordinates + d) (⊎_elim (λ b. inl (omega arith)) (λ b. inr (omega arith)) o) ∙ sym (high_word l a h))

-- ---- ends that are set
-- a list made of a function that differs at one place
one_set : {n d : ℕ} (f g : ℕ → ℤ) {x : ℤ} → d < n → g d ≡ x → ((e : ℕ) → e < n → (e ≡ d → ⊥) → g e ≡ f e)
    → list_below n g ≡ set (list_below n f) d x
one_set {n} {d} f g {x} l here there =
    words-ext (length-list_below n g ∙ sym (length-set (list_below n f) d x ∙ length-list_below n f))
    (λ e h. let m : e < n = omega (arith, length-list_below n g) in get_or-list_below g (pos 0) m ∙ ⊎_elim
    (λ q. ap g q ∙ here
    ∙ sym (ap (word (set (list_below n f) d x)) q ∙ get_or-set_same (list_below n f) d x (pos 0) (omega (arith, length-list_below n f))))
    (λ q. there e m q ∙ sym (get_or-set_other (list_below n f) d e x (pos 0) q ∙ get_or-list_below f (pos 0) m))
    (same_or e d))

module _ (words : List ℤ) (d : ℕ) (n : length words ≡ area_words) (l : d < coordinates) where
  -- the bounds of dimension d
  pub ends_set : (x y : ℤ)
      → area_by (set (area_of words).low d x) (set (area_of words).high d y) ≡ area_of (set (set words d x) (coordinates + d) y)
  unfolding area_of
  ends_set x y = sym (ap₂ area_by
      (one_set (word words) (word (set (set words d x) (coordinates + d) y)) l
      (get_or-set_other (set words d x) (coordinates + d) d y (pos 0) (λ q. omega arith) ∙ get_or-set_same words d x (pos 0) (omega arith))
      (λ e h q. get_or-set_other (set words d x) (coordinates + d) e y (pos 0) (λ p. omega arith) ∙ get_or-set_other words d e x (pos 0) q))
      (one_set (λ e. word words (coordinates + e)) (λ e. word (set (set words d x) (coordinates + d) y) (coordinates + e)) l
      (get_or-set_same (set words d x) (coordinates + d) y (pos 0) (omega (arith, length-set words d x)))
      (λ e h q. get_or-set_other (set words d x) (coordinates + d) (coordinates + e) y (pos 0) (λ p. q (omega arith))
      ∙ get_or-set_other words d (coordinates + e) x (pos 0) (λ p. omega arith))))

  -- ---- set to the larger and to the lesser of the old and the new ones
  pub ends-cut : {x y low high : ℤ} → Within reach x → Within reach y → low ≡ max_z (word words d) x
      → high ≡ min_z (word (set words d low) (coordinates + d)) y → {k : ℕ} → d < k
      → Cuts k (area_of words) (area_of (set (set words d low) (coordinates + d) high)) (λ p. within x y (word p d))
  ends-cut {x} {y} {low} {high} bx by el eh {k} h =
      subst (λ (a : Area). Cuts k (area_of words) a (λ p. within x y (word p d))) (ends_set low high)
      (cuts-one (area_of words) d x y
      (omega (arith, low-long words)) (omega (arith, high-long words))
      (el ∙ ap (λ (z : ℤ). max_z z x) (sym (low_of words l)))
      (eh ∙ ap (λ (z : ℤ). min_z z y) (get_or-set_other words d (coordinates + d) low (pos 0) (λ q. omega arith) ∙ sym (high-of words l)))
      bx by h)
