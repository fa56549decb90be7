-- The digits of a number, read from the left, and its size: ten digits are below 10,000,000,000. Assumes nothing.
use mathlib.Core.Path.{◌≡◌, refl, sym, ap, ◌∙◌}
use mathlib.Core.Logic.{⊎_elim}
use mathlib.Core.Bool.{Bool, true, false, cond, ◌&&◌, and-false}
use mathlib.Core.List.{List, [], ◌∷◌}
use mathlib.Core.Option.{none, some}
use Prim.Native.Nat.{ℕ, suc, ◌+◌, ◌*◌, ◌-◌, ◌^◌, ◌≤◌, ◌<◌}
use native.Mathlib.Omega.{arith}
use native.Mathlib.Numerals.{add-one}
use native.Mathlib.Nat.{mul-le-mul_right, mul-le-mul_left, mul_assoc, pow-succ', le_trans, le_of_eq, one-le-pow, pow-le-pow_right}
use borrow.Author.Tests.{leb-true, le-leb, lt-leb}
use lib.Dec.{leb}
use lib.ListN.{length, get_or, drop, drop_of_length-le}
use lib.Seq.{drop-cons}
use Rattle.integers.proofs.Booleans.{decide, and-true}
use Rattle.sheet.specs.Text.{digits_from, positive}

-- a byte from lo to hi
abbrev pub between : ℕ → ℕ → ℕ → Bool
between lo hi b = leb lo b && leb b hi

pub between-true : {lo hi b : ℕ} → between lo hi b ≡ true → (lo ≤ b) × (b ≤ hi)
between-true {lo} {hi} {b} e = let k = and-true {a = leb lo b} e in (leb-true lo b k.0, leb-true b hi k.1)

-- ---- one digit more

module _ (v b : ℕ) (bs : List ℕ) where
  digit-yes : between 48 57 b ≡ true → digits_from v (b ∷ bs) ≡ digits_from (v * 10 + (b - 48)) bs
  unfolding digits_from
  digit-yes e = rw (e, digits_from)

  digit-no : between 48 57 b ≡ false → digits_from v (b ∷ bs) ≡ none
  unfolding digits_from
  digit-no e = rw (e, digits_from)

module _ (s : List ℕ) (i v : ℕ) where
  pub digits_more : i < length s → between 48 57 (get_or s i 0) ≡ true
      → digits_from v (drop i s) ≡ digits_from (v * 10 + (get_or s i 0 - 48)) (drop (i + 1) s)
  digits_more h e = ap (digits_from v) (drop-cons s i 0 h) ∙ digit-yes v _ _ e ∙ rw add-one

  pub digits-bad : i < length s → between 48 57 (get_or s i 0) ≡ false → digits_from v (drop i s) ≡ none
  digits-bad h e = ap (digits_from v) (drop-cons s i 0 h) ∙ digit-no v _ _ e

  pub digits-end : length s ≤ i → digits_from v (drop i s) ≡ some v
  unfolding digits_from
  digits-end h = rw (drop_of_length-le s h)

-- ---- the size: v has room for n digits more where (v + 1) 10^n is at most 10^10

pub room_small : (n v : ℕ) → (v + 1) * 10 ^ n ≤ 10000000000 → v < 10000000000
room_small n v h = let g : (v + 1) * 1 ≤ (v + 1) * 10 ^ n = mul-le-mul_left (v + 1) (one-le-pow n 10 (omega arith)) in omega arith

pub room-more : (n v d : ℕ) → d ≤ 9 → (v + 1) * 10 ^ suc n ≤ 10000000000 → (v * 10 + d + 1) * 10 ^ n ≤ 10000000000
room-more n v d g e =
    let a : v * 10 + d + 1 ≤ (v + 1) * 10 = omega arith in
    let q : (v + 1) * 10 * 10 ^ n ≡ (v + 1) * 10 ^ suc n =
    mul_assoc (v + 1) 10 (10 ^ n) ∙ ap (λ (x : ℕ). (v + 1) * x) (sym (pow-succ' 10 n)) in
    le_trans (mul-le-mul_right (10 ^ n) a) (le_trans (le_of_eq q) e)

pub room-first : (n v : ℕ) → v ≤ 9 → n ≤ 9 → (v + 1) * 10 ^ n ≤ 10000000000
room-first n v h g =
    let a : (v + 1) * 10 ^ n ≤ 10 * 10 ^ n = mul-le-mul_right (10 ^ n) (omega arith) in
    let b : 10 * 10 ^ n ≤ 10 * 10 ^ 9 = mul-le-mul_left 10 (pow-le-pow_right (omega arith) g) in
    omega arith

digits-small : (s : List ℕ) (v w : ℕ) → (v + 1) * 10 ^ length s ≤ 10000000000 → digits_from v s ≡ some w → w < 10000000000
unfolding digits_from
digits-small [] v w h e = let q : v ≡ w = cc in rw (← q) (room_small 0 v h)
digits-small (b ∷ bs) v w h e =
    ⊎_elim
    (λ (d : between 48 57 b ≡ true).
    let digit : b ≤ 57 = (between-true d).1 in
    digits-small bs (v * 10 + (b - 48)) w (room-more (length bs) v (b - 48) (omega arith) h) (sym (digit-yes v b bs d) ∙ e))
    (λ (d : between 48 57 b ≡ false). let f = sym (digit-no v b bs d) ∙ e in let z : ◌≡◌ {A = ℕ} 0 1 = cc in absurd (omega arith))
    (decide (between 48 57 b))

-- ---- a digit 1 to 9 and up to nine digits more

positive-cons : (b : ℕ) (bs : List ℕ) → positive (b ∷ bs) ≡ cond (between 49 57 b && leb (length bs) 9) (digits_from (b - 48) bs) none
unfolding positive
positive-cons b bs = refl

pub positive-none : (s : List ℕ) → length s ≡ 0 → positive s ≡ none
unfolding positive
positive-none [] h = refl
positive-none (b ∷ bs) h = absurd (omega arith)

pub positive-below : (s : List ℕ) → get_or s 0 0 < 49 → positive s ≡ none
positive-below [] h = positive-none [] refl
positive-below (b ∷ bs) h = positive-cons b bs ∙ rw (lt-leb 49 b h)

pub positive-above : (s : List ℕ) → 57 < get_or s 0 0 → positive s ≡ none
positive-above [] h = positive-none [] refl
positive-above (b ∷ bs) h = positive-cons b bs ∙ rw (lt-leb b 57 h, and-false)

pub positive-long : (s : List ℕ) → 10 < length s → positive s ≡ none
positive-long [] h = absurd (omega arith)
positive-long (b ∷ bs) h = positive-cons b bs ∙ (let q : 9 < length bs = omega arith in rw (lt-leb (length bs) 9 q, and-false))

pub positive-good : (s : List ℕ) → 49 ≤ get_or s 0 0 → get_or s 0 0 ≤ 57 → length s ≤ 10 → positive s ≡ digits_from (get_or s 0 0 - 48) (drop 1 s)
positive-good [] h e g = absurd (omega arith)
positive-good (b ∷ bs) h e g =
    positive-cons b bs ∙ (let q : length bs ≤ 9 = omega arith in rw (le-leb 49 b h, le-leb b 57 e, le-leb (length bs) 9 q))

pub positive-small : (s : List ℕ) (v : ℕ) → positive s ≡ some v → v < 10000000000
unfolding positive
positive-small [] v e = let z : ◌≡◌ {A = ℕ} 0 1 = cc in absurd (omega arith)
positive-small (b ∷ bs) v e =
    let x = between 49 57 b && leb (length bs) 9 in
    let f = sym (positive-cons b bs) ∙ e in
    ⊎_elim
    (λ (d : x ≡ true).
    let k = and-true {a = between 49 57 b} d in
    let digit : b ≤ 57 = (between-true k.0).1 in
    let few = leb-true (length bs) 9 k.1 in
    digits-small bs (b - 48) v (room-first (length bs) (b - 48) (omega arith) few) (rw d at f))
    (λ (d : x ≡ false). let g = rw d at f in let z : ◌≡◌ {A = ℕ} 0 1 = cc in absurd (omega arith))
    (decide x)
