-- The mirror's laws: to turn twice is to do nothing, to negate reverses the order, and a point lies in the turned box exactly
-- when the turned point lies in the box. So the greatest coordinate is found as the least of the turned points.
-- Assumes nothing.
use mathlib.Core.Path.{◌≡◌, refl, ap, ap₂, ◌∙◌}
use mathlib.Core.Bool.{Bool, true, false}
use mathlib.Core.List.{List, [], ◌∷◌}
use Prim.Native.Nat.{ℕ}
use lib.IntN.{ℤ, pos, neg_ℤ, neg_ℤ-neg_ℤ}
use lib.Signed.{◌≤ℤ◌, ≤ℤ_refl}
use lib.ListN.{length, length-map, get_or-map}
use Rattle.integers.specs.Integer.{Within}
use Rattle.integers.specs.Words.{word}
use Rattle.integers.proofs.Ints.{ints, neg}
use Rattle.sweep.specs.Point.{InBox, Near, turn, mirror, turned, turned_end}

-- ---- a number
pub turn-turn : (flip : Bool) (z : ℤ) → turn flip (turn flip z) ≡ z
unfolding turn
turn-turn true z = neg_ℤ-neg_ℤ z
turn-turn false z = refl

neg-reverses : {a b : ℤ} → a ≤ℤ b → neg_ℤ b ≤ℤ neg_ℤ a
neg-reverses {a} {b} h = omega (ints, neg a, neg b)

pub reverses-turn : (a b : ℤ) → turn true a ≤ℤ turn true b → b ≤ℤ a
unfolding turn
reverses-turn a b h = omega (ints, neg a, neg b)

pub turn-within : (flip : Bool) {n : ℕ} {z : ℤ} → Within n z → Within n (turn flip z)
unfolding turn
turn-within true {n} {z} h = omega (ints, neg z)
turn-within false h = h

-- ---- a point
pub length-mirror : (p : List ℤ) → length (mirror p) ≡ length p
unfolding mirror
length-mirror p = length-map p neg_ℤ

pub word-mirror : (p : List ℤ) (i : ℕ) → word (mirror p) i ≡ neg_ℤ (word p i)
unfolding mirror
word-mirror p i = get_or-map neg_ℤ p i (pos 0)

mirror-mirror : (p : List ℤ) → mirror (mirror p) ≡ p
unfolding mirror
mirror-mirror [] = refl
mirror-mirror (z ∷ p) = ap₂ (λ (y : ℤ) (q : List ℤ). y ∷ q) (neg_ℤ-neg_ℤ z) (mirror-mirror p)

pub word-turned : (flip : Bool) (p : List ℤ) (i : ℕ) → word (turned flip p) i ≡ turn flip (word p i)
unfolding turn turned
word-turned true p i = word-mirror p i
word-turned false p i = refl

pub turn-word : (flip : Bool) (p : List ℤ) (i : ℕ) → turn flip (word (turned flip p) i) ≡ word p i
turn-word flip p i = ap (turn flip) (word-turned flip p i) ∙ turn-turn flip (word p i)

pub turned-turned : (flip : Bool) (p : List ℤ) → turned flip (turned flip p) ≡ p
unfolding turned
turned-turned true p = mirror-mirror p
turned-turned false p = refl

pub near-turned : (flip : Bool) {p : List ℤ} → Near p → Near (turned flip p)
near-turned flip n = record { near = λ i. rw word-turned (turn-within flip (n.near i)) }

-- ---- a box
-- the box from low' to high' is the box from low to high, turned
pub record TurnedBox (flip : Bool) (low high low' high' : List ℤ) : Type 0 where
  pub start : low' ≡ turned_end flip high low
  pub end : high' ≡ turned_end flip low high

box-turned : (flip : Bool) {k : ℕ} {low high p : List ℤ} → InBox k low high p
    → InBox k (turned_end flip high low) (turned_end flip low high) (turned flip p)
unfolding turned turned_end
box-turned true b = record {
  from = λ i h. rw (word-mirror _ i, word-mirror _ i) (neg-reverses (b.upto i h));
  upto = λ i h. rw (word-mirror _ i, word-mirror _ i) (neg-reverses (b.from i h));
}
box-turned false b = b

box-back : (flip : Bool) {k : ℕ} (low high : List ℤ) {p : List ℤ} → InBox k (turned_end flip high low) (turned_end flip low high) p
    → InBox k low high (turned flip p)
unfolding turned turned_end
box-back true low high b = simp mirror-mirror at (box-turned true b)
box-back false low high b = b

end-filled : (flip : Bool) {k : ℕ} {low high : List ℤ} → InBox k low high low
    → InBox k (turned_end flip high low) (turned_end flip low high) (turned_end flip high low)
unfolding turned_end
end-filled true b = record {
  from = λ i h. ≤ℤ_refl _;
  upto = λ i h. rw (word-mirror _ i, word-mirror _ i) (neg-reverses (b.upto i h));
}
end-filled false b = b

end-near : (flip : Bool) {low high : List ℤ} → Near low → Near high → Near (turned_end flip low high)
unfolding turned turned_end
end-near true m n = near-turned true m
end-near false m n = n

module _ {flip : Bool} {low high low' high' : List ℤ} (t : TurnedBox flip low high low' high') where
  -- a point lies in the turned box exactly when the turned point lies in the box
  pub box-in : {k : ℕ} {p : List ℤ} → InBox k low high (turned flip p) → InBox k low' high' p
  box-in b = rw (t.start, t.end) (simp turned-turned at (box-turned flip b))

  pub box_out : {k : ℕ} {p : List ℤ} → InBox k low' high' p → InBox k low high (turned flip p)
  box_out b = box-back flip low high (rw (t.start, t.end) at b)

  -- and it holds its low end where the box holds its own
  pub box-filled : {k : ℕ} → InBox k low high low → InBox k low' high' low'
  box-filled b = rw (t.start, t.end) (end-filled flip b)

  pub near-start : Near low → Near high → Near low'
  near-start m n = rw t.start (end-near flip n m)

  pub near-end : Near low → Near high → Near high'
  near-end m n = rw t.end (end-near flip m n)
