-- The laws of points: one past each word, the lesser words of two points, and a point that a loop makes word by word.
-- Assumes nothing.
use mathlib.Core.Path.{◌≡◌, refl, ◌∙◌}
use mathlib.Core.Bool.{Bool, true, false, cond}
use mathlib.Core.List.{List, [], ◌∷◌, ◌++◌, map, zip_with, append-nil}
use Prim.Native.Nat.{ℕ, zero, suc, ◌+◌, ◌^◌, ◌≤◌, ◌<◌, min}
use native.Mathlib.Omega.{arith}
use native.Mathlib.Numerals.{add-one}
use native.Mathlib.Nat.{zero-add, not-suc-le-zero, le_of_suc-le-suc}
use lib.Dec.{T, ltb}
use lib.IntN.{ℤ, pos, ◌+ℤ◌}
use lib.Signed.{◌<ℤ◌, le_z}
use lib.ListN.{length, set, take, drop, length-map, drop_of_length-le}
use lib.Seq.{paste-suc, take_all, length-take-le, drop-cons, get_or_at}
use mir.Syntax.{w64}
use mir.Val.{SFits, to_z, of_z}
use mir.Facts.{to_z-of_z}
use Rattle.integers.specs.Integer.{Within}
use Rattle.integers.specs.Words.{word}
use Rattle.integers.proofs.Ints.{ints}
use Rattle.integers.proofs.Machine.{within-weaken, within-sum, within-fits}
use Rattle.points.specs.Area.{min_z}
use Rattle.sweep.specs.Point.{limit, Near, next, nexts, lessers}

-- a point of small words is near
pub near_of : {n : ℕ} {p : List ℤ} → n ≤ limit → ((i : ℕ) → Within n (word p i)) → Near p
near_of h w = record { near = λ i. within-weaken h (w i) }

-- a near word and a small number more fit an i64
pub near_fits : {z : ℤ} → Within limit z → (n : ℕ) → T (ltb (limit + n) (2 ^ 63)) → SFits w64 (to_z w64 (of_z w64 z) +ℤ pos n)
near_fits h n t =
    let w : Within n (pos n) = omega ints in
    rw (to_z-of_z (within-fits h tt)) (within-fits (within-sum h w) t)

-- ---- one past each word
pub length-nexts : (p : List ℤ) → length (nexts p) ≡ length p
unfolding nexts
length-nexts p = length-map p next

pub word-map : (f : ℤ → ℤ) (p : List ℤ) (i : ℕ) → i < length p → word (map f p) i ≡ f (word p i)
word-map f [] i h = absurd (not-suc-le-zero h)
word-map f (z ∷ p) zero h = refl
word-map f (z ∷ p) (suc i) h = word-map f p i (le_of_suc-le-suc h)

pub word-nexts : (p : List ℤ) (i : ℕ) → i < length p → word (nexts p) i ≡ next (word p i)
unfolding nexts
word-nexts p i h = word-map next p i h

-- ---- the lesser words
pub length-lessers : (p q : List ℤ) → length (lessers p q) ≡ min (length p) (length q)
unfolding lessers zip_with
length-lessers [] q = omega arith
length-lessers (y ∷ p) [] = omega arith
length-lessers (y ∷ p) (z ∷ q) = let e = length-lessers p q in omega arith

pub word-lessers : (p q : List ℤ) (i : ℕ) → i < length p → i < length q → word (lessers p q) i ≡ min_z (word p i) (word q i)
unfolding lessers zip_with
word-lessers [] q i h g = absurd (not-suc-le-zero h)
word-lessers (y ∷ p) [] i h g = absurd (not-suc-le-zero g)
word-lessers (y ∷ p) (z ∷ q) zero h g = refl
word-lessers (y ∷ p) (z ∷ q) (suc i) h g = word-lessers p q i (le_of_suc-le-suc h) (le_of_suc-le-suc g)

-- below both exactly when below the lesser
pub below-lesser : (a b z : ℤ) → z <ℤ a → z <ℤ b → z <ℤ min_z a b
below-lesser a b z h g = by (le_z a b)
  where
    by : (t : Bool) → z <ℤ cond t a b
    by true = h
    by false = g

pub lesser-below : (a b z : ℤ) → z <ℤ min_z a b → (z <ℤ a) × (z <ℤ b)
lesser-below a b z = by (le_z a b) refl
  where
    by : (t : Bool) → le_z a b ≡ t → z <ℤ cond t a b → (z <ℤ a) × (z <ℤ b)
    by true e h = (h, omega ints)
    by false e h = (omega ints, h)

-- ---- a loop that makes the point g word by word in the place of p: q, once the first j words are made
pub record Made (p g q : List ℤ) (j : ℕ) : Type 0 where
  pub long : length g ≡ length p
  pub done : q ≡ take j g ++ drop j p

pub made_none : {p g : List ℤ} → length g ≡ length p → Made p g p 0
made_none e = record { long = e; done = refl }

pub made_more : {p g q : List ℤ} {j : ℕ} {z : ℤ} → Made p g q j → j < length p → z ≡ word g j → Made p g (set q j z) (j + 1)
made_more {p} {g} {q} {j} m h e = record {
  long = m.long;
  done = rw (m.done, e, add-one) (simp zero-add at (paste-suc p 0 g j (pos 0) (omega arith) (omega (arith, m.long))));
}

-- the words from j on are still those of p
pub made_word : {p g q : List ℤ} {j : ℕ} → Made p g q j → j < length p → word q j ≡ word p j
made_word {p} {g} {q} {j} m h =
    let l : length (take j g) ≡ j = length-take-le j g (omega (arith, m.long)) in
    rw (m.done, drop-cons p j (pos 0) h) (get_or_at (take j g) (word p j) (drop (suc j) p) (pos 0) j l)

pub made_all : {p g q : List ℤ} {j : ℕ} → Made p g q j → length p ≤ j → q ≡ g
made_all {p} {g} {q} {j} m h =
    let l : length g ≤ j = omega (arith, m.long) in
    m.done ∙ rw (take_all j g l, drop_of_length-le p h, append-nil)
