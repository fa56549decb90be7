-- Runs of words: the elements of lists made of a function, the words of a run with a part replaced, runs that are equal
-- word for word. Assumes nothing.
use mathlib.Core.Path.{◌≡◌, refl, sym, ap, ap₂, ◌∙◌, subst}
use mathlib.Core.Logic.{⊎_elim}
use mathlib.Core.Bool.{Bool, true, false, not}
use mathlib.Core.List.{List, [], ◌∷◌, ◌++◌, append_assoc}
use Prim.Native.Nat.{ℕ, zero, suc, ◌+◌, ◌-◌, ◌*◌, ◌≤◌, ◌<◌}
use native.Mathlib.Nat.{not-suc-le-zero, add-zero}
use native.Mathlib.Numerals.{add-one}
use native.Mathlib.Omega.{arith}
use lib.Dec.{lit<}
use lib.IntN.{ℤ, pos}
use lib.ListN.{length, get_or, set, take, drop, length-append, length-drop, take-append-drop, get_or-append}
use lib.Seq.{length-take-le, drop-cons, get_or_at, get_or-append-add, get_or-take, get_or-drop, set_at, ext_get_or}
use Rattle.integers.specs.Integer.{eq_z}
use Rattle.integers.specs.Below.{any_below}
use Rattle.integers.specs.Words.{word, list_below, pairs_below, replaced, same_words}
use Rattle.integers.proofs.Booleans.{clash, decide, not-true, not-false, and-true, true-and}
use Rattle.integers.proofs.Ints.{eq_z-eq, eq-eq_z, eq_z-refl}
use Rattle.integers.proofs.Below.{last_or, any_at, any_false}

-- ---- f 0 to f (n − 1)
module _ {ℓ} {A : Type ℓ} where
  pub length-list_below : (n : ℕ) (f : ℕ → A) → length (list_below n f) ≡ n
  unfolding list_below
  length-list_below zero f = refl
  length-list_below (suc n) f = omega (arith, length-append (list_below n f) (f n ∷ []), length-list_below n f)

  pub get_or-list_below : {n d : ℕ} (f : ℕ → A) (x : A) → d < n → get_or (list_below n f) d x ≡ f d
  unfolding list_below
  get_or-list_below {n = zero} f x h = absurd (not-suc-le-zero h)
  get_or-list_below {n = suc n} {d} f x h =
      ⊎_elim (λ e. get_or_at (list_below n f) (f n) [] x d (length-list_below n f ∙ sym e) ∙ ap f (sym e))
      (λ l. get_or-append (list_below n f) (f n ∷ []) x d (omega (arith, length-list_below n f)) ∙ get_or-list_below {n = n} f x l)
      (last_or h)

-- ---- f 0, g 0 to f (n − 1), g (n − 1)
pub length-pairs_below : (n : ℕ) (f g : ℕ → ℤ) → length (pairs_below n f g) ≡ 2 * n
unfolding pairs_below
length-pairs_below zero f g = refl
length-pairs_below (suc n) f g = omega (arith, length-append (pairs_below n f g) (f n ∷ g n ∷ []), length-pairs_below n f g)

pair-at : {n d : ℕ} (f g : ℕ → ℤ) (e : ℕ) → e < 2 → d < n → word (pairs_below n f g) (2 * d + e) ≡ word (f d ∷ g d ∷ []) e
unfolding pairs_below
pair-at {n = zero} f g e b h = absurd (not-suc-le-zero h)
pair-at {n = suc n} {d} f g e b h =
    ⊎_elim
    (λ q. ap (word (pairs_below n f g ++ (f n ∷ g n ∷ []))) (omega (arith, length-pairs_below n f g))
    ∙ get_or-append-add (pairs_below n f g) (f n ∷ g n ∷ []) e (pos 0) ∙ ap (λ (k : ℕ). word (f k ∷ g k ∷ []) e) (sym q))
    (λ l. get_or-append (pairs_below n f g) (f n ∷ g n ∷ []) (pos 0) (2 * d + e) (omega (arith, length-pairs_below n f g))
    ∙ pair-at {n = n} f g e b l)
    (last_or h)

pub pairs_below-first : {n d : ℕ} (f g : ℕ → ℤ) → d < n → word (pairs_below n f g) (2 * d) ≡ f d
pairs_below-first {n} {d} f g h = ap (word (pairs_below n f g)) (sym (add-zero (2 * d))) ∙ pair-at f g 0 (lit< tt) h

pub pairs_below-second : {n d : ℕ} (f g : ℕ → ℤ) → d < n → word (pairs_below n f g) (2 * d + 1) ≡ g d
pairs_below-second f g h = pair-at f g 1 (lit< tt) h

pub pairs_below-more : (n : ℕ) (f g : ℕ → ℤ) → pairs_below (n + 1) f g ≡ pairs_below n f g ++ (f n ∷ g n ∷ [])
unfolding pairs_below
pairs_below-more n f g = rw add-one

-- ---- runs that are equal word for word
pub words-ext : {xs ys : List ℤ} → length xs ≡ length ys → ((k : ℕ) → k < length xs → word xs k ≡ word ys k) → xs ≡ ys
words-ext {xs} {ys} l h = ext_get_or (pos 0) xs ys l h

pub same-eq : {xs ys : List ℤ} → same_words xs ys ≡ true → xs ≡ ys
unfolding same_words
same-eq {xs = []} {ys = []} e = refl
same-eq {xs = []} {ys = y ∷ ys} e = clash e refl
same-eq {xs = x ∷ xs} {ys = []} e = clash e refl
same-eq {xs = x ∷ xs} {ys = y ∷ ys} e =
    let w : (eq_z x y ≡ true) × (same_words xs ys ≡ true) = and-true e in
    ap₂ (λ (z : ℤ) (zs : List ℤ). z ∷ zs) (eq_z-eq w.0) (same-eq w.1)

pub same_refl : (xs : List ℤ) → same_words xs xs ≡ true
unfolding same_words
same_refl [] = refl
same_refl (x ∷ xs) = true-and (eq_z-refl x) (same_refl xs)

pub same_not : (xs ys : List ℤ) → length xs ≡ length ys → same_words xs ys ≡ false
    → (k : ℕ) × (k < length xs) × (word xs k ≡ word ys k → ⊥)
same_not xs ys l e =
    ⊎_elim (λ t. let w = any_at t in (w.0, w.1, λ q. clash (eq-eq_z q) (not-true w.2)))
    (λ t. clash (same (words-ext l (λ k h. eq_z-eq (not-false (any_false differ t k h))))) e)
    (decide (any_below (length xs) differ))
  where
    differ : ℕ → Bool
    differ k = not (eq_z (word xs k) (word ys k))

    same : xs ≡ ys → same_words xs ys ≡ true
    same q = subst (λ (zs : List ℤ). same_words xs zs ≡ true) q (same_refl xs)

-- ---- a run with a part replaced
module _ (words : List ℤ) (at : ℕ) (new : List ℤ) (fits : at + length new ≤ length words) where
  taken : length (take at words) ≡ at
  taken = length-take-le at words (omega arith)

  pub length-replaced : length (replaced words at new) ≡ length words
  unfolding replaced
  length-replaced = simp (length-append, length-drop) (omega (arith, taken))

  pub replaced-before : (k : ℕ) → k < at → word (replaced words at new) k ≡ word words k
  unfolding replaced
  replaced-before k h =
      get_or-append (take at words) (new ++ drop (at + length new) words) (pos 0) k (omega (arith, taken)) ∙ get_or-take at words k (pos 0) h

  pub replaced-in : (k : ℕ) → k < length new → word (replaced words at new) (at + k) ≡ word new k
  unfolding replaced
  replaced-in k h =
      ap (λ (n : ℕ). word (replaced words at new) (n + k)) (sym taken)
      ∙ get_or-append-add (take at words) (new ++ drop (at + length new) words) k (pos 0)
      ∙ get_or-append new (drop (at + length new) words) (pos 0) k h

  pub replaced-after : (k : ℕ) → at + length new ≤ k → word (replaced words at new) k ≡ word words k
  unfolding replaced
  replaced-after k h =
      let e : k ≡ length (take at words) + (length new + (k - (at + length new))) = omega (arith, taken) in
      let g : at + length new + (k - (at + length new)) ≡ k = omega arith in
      ap (word (replaced words at new)) e
      ∙ get_or-append-add (take at words) (new ++ drop (at + length new) words) (length new + (k - (at + length new))) (pos 0)
      ∙ get_or-append-add new (drop (at + length new) words) (k - (at + length new)) (pos 0)
      ∙ get_or-drop (at + length new) words (k - (at + length new)) (pos 0) ∙ ap (word words) g

-- written one word after the other
pub replaced-none : (words : List ℤ) (at : ℕ) → replaced words at [] ≡ words
unfolding replaced
replaced-none words at = ap (λ (n : ℕ). take at words ++ drop n words) (add-zero at) ∙ take-append-drop at words

pub replaced-more : (words : List ℤ) (at : ℕ) (new : List ℤ) (v : ℤ) → at + length new < length words
    → set (replaced words at new) (at + length new) v ≡ replaced words at (new ++ (v ∷ []))
unfolding replaced
replaced-more words at new v h =
    ap (λ (l : List ℤ). set l (at + length new) v) front ∙ set_at (take at words ++ new) _ _ v (at + length new) long ∙ back
  where
    front : take at words ++ (new ++ drop (at + length new) words)
        ≡ take at words ++ new ++ get_or words (at + length new) (pos 0) ∷ drop (suc (at + length new)) words
    front = rw (drop-cons words (at + length new) (pos 0), append_assoc)

    long : length (take at words ++ new) ≡ at + length new
    long = omega (arith, length-append (take at words) new, length-take-le at words (omega arith))

    back : take at words ++ new ++ v ∷ drop (suc (at + length new)) words
        ≡ take at words ++ (new ++ (v ∷ []) ++ drop (at + length (new ++ (v ∷ []))) words)
    back = let e : at + length (new ++ (v ∷ [])) ≡ suc (at + length new) = omega (arith, length-append new (v ∷ [])) in rw e (simp append_assoc)

pub replaced-one : (words : List ℤ) (at : ℕ) (v : ℤ) → at < length words → set words at v ≡ replaced words at (v ∷ [])
replaced-one words at v h =
    let q : at ≡ at + 0 = omega arith in
    ap₂ (λ (ws : List ℤ) (n : ℕ). set ws n v) (sym (replaced-none words at)) q ∙ replaced-more words at [] v (omega arith)

pub replaced-two : (words : List ℤ) (at : ℕ) (u v : ℤ) → at + 1 < length words → set (set words at u) (at + 1) v ≡ replaced words at (u ∷ v ∷ [])
replaced-two words at u v h =
    ap (λ (ws : List ℤ). set ws (at + 1) v) (replaced-one words at u (omega arith)) ∙ replaced-more words at (u ∷ []) v h
