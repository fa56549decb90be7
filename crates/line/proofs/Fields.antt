-- The fields of a line: numbers in order, no fewer and no more than asked for, behind a first field that is the letter alone.
-- Assumes nothing.
use mathlib.Core.Path.{◌≡◌, refl, sym, ap, ◌∙◌}
use mathlib.Core.Bool.{Bool, true, false, cond, ◌&&◌, and-false}
use mathlib.Core.List.{List, [], ◌∷◌}
use mathlib.Core.Option.{Option, none, some}
use Prim.Native.Nat.{ℕ, suc, ◌+◌, ◌-◌, ◌≤◌, ◌<◌}
use native.Mathlib.Omega.{arith}
use native.Mathlib.Numerals.{add-one}
use borrow.Author.Tests.{eq-eqb, eqb-true, ne_eqb}
use lib.Dec.{eqb}
use lib.IntN.{ℤ}
use lib.ListN.{length, get_or, take, drop, set}
use lib.Seq.{sets, length-take-le, get_or-take}
use Rattle.std.specs.Prelude as code
use Rattle.std.specs.Prelude.{Some, None}
use Rattle.integers.proofs.Booleans.{both_ways, and-true}
use Rattle.sheet.specs.Layout.{record_most}
use Rattle.sheet.specs.Text.{split, number, numbers, cons, fields_of, line}
use Rattle.line.specs.Parts.{until, parts_from, numbers_in}
use Rattle.line.specs.Answers.{zeros, placed, line_of}
use Rattle.line.proofs.Parts.{parts_none, parts_all, parts_next, part-ends}

-- ---- n fields that are numbers

eqb-suc : (a b : ℕ) → eqb (suc a) (suc b) ≡ eqb a b
eqb-suc a b =
    both_ways (eqb (suc a) (suc b)) (eqb a b)
    (λ e. eq-eqb a b (let q = eqb-true (suc a) (suc b) e in omega arith))
    (λ e. eq-eqb (suc a) (suc b) (let q = eqb-true a b e in omega arith))

cond-cons : (b : Bool) (o : Option ℤ) (os : Option (List ℤ)) → cond b (cons o os) none ≡ cons o (cond b os none)
unfolding cons
cond-cons true o os = refl
cond-cons false none os = refl
cond-cons false (some w) os = refl

numbers_more : (n : ℕ) (f : List ℕ) (fs : List (List ℕ)) → numbers_in (suc n) (f ∷ fs) ≡ cons (number f) (numbers_in n fs)
unfolding numbers_in numbers
numbers_more n f fs =
    ap (λ (b : Bool). cond b (cons (number f) (numbers fs)) none) (eqb-suc (length fs) n)
    ∙ cond-cons (eqb (length fs) n) (number f) (numbers fs)

numbers-few : (n : ℕ) → numbers_in (suc n) [] ≡ none
unfolding numbers_in
numbers-few n = rw (ne_eqb 0 (suc n) (λ q. omega arith))

numbers-over : (f : List ℕ) (fs : List (List ℕ)) → numbers_in 0 (f ∷ fs) ≡ none
unfolding numbers_in
numbers-over f fs = rw (ne_eqb (suc (length fs)) 0 (λ q. omega arith))

numbers-end : numbers_in 0 [] ≡ some []
unfolding numbers_in numbers
numbers-end = refl

-- ---- a walk over the fields: the words before place i are there, and o gives those from i on

unfoldable pub line_onto : List ℤ → ℕ → Option (List ℤ) → code.Option (List ℤ)
line_onto w i none = None
line_onto w i (some ws) = Some (sets w i ws)

onto-more : (w : List ℤ) (i : ℕ) (v : ℤ) (o : Option (List ℤ)) → line_onto (set w i v) (i + 1) o ≡ line_onto w i (cons (some v) o)
unfolding line_onto cons
onto-more w i v none = refl
onto-more w i v (some ws) = rw add-one

onto-bad : (w : List ℤ) (i : ℕ) (o : Option (List ℤ)) → None ≡ line_onto w i (cons none o)
unfolding line_onto cons
onto-bad w i o = refl

onto-first : (o : Option (List ℤ)) → line_onto (zeros record_most) 0 o ≡ line_of o
unfolding line_onto line_of placed
onto-first none = refl
onto-first (some ws) = refl

-- what the fields from p on give, put from place i of n on
module _ (s : List ℕ) (n p : ℕ) (w : List ℤ) (i : ℕ) where
  abbrev pub walked : code.Option (List ℤ)
  walked = line_onto w i (numbers_in (n - i) (parts_from 44 s p))

  pub fields-few : i < n → length s < p → None ≡ walked
  unfolding line_onto
  fields-few h g =
      let q : n - i ≡ suc (n - (i + 1)) = omega arith in
      sym (ap (λ (fs : List (List ℕ)). line_onto w i (numbers_in (n - i) fs)) (parts_none 44 s g)
      ∙ ap (λ (m : ℕ). line_onto w i (numbers_in m [])) q
      ∙ ap (line_onto w i) (numbers-few (n - (i + 1))))

  pub fields-end : n ≤ i → length s < p → Some w ≡ walked
  unfolding line_onto
  fields-end h g =
      let q : n - i ≡ 0 = omega arith in
      sym (ap (λ (fs : List (List ℕ)). line_onto w i (numbers_in (n - i) fs)) (parts_none 44 s g)
      ∙ ap (λ (m : ℕ). line_onto w i (numbers_in m [])) q
      ∙ ap (line_onto w i) numbers-end)

  -- the next field ends at e
  module _ (e : ℕ) (h : p ≤ length s) (k : e ≡ p + length (until 44 (drop p s))) where
    abbrev field : List ℕ
    field = take (e - p) (drop p s)

    here : parts_from 44 s p ≡ field ∷ parts_from 44 s (e + 1)
    here = parts_next 44 s h k

    pub fields-over : n ≤ i → None ≡ walked
    unfolding line_onto
    fields-over g =
        let q : n - i ≡ 0 = omega arith in
        sym (ap (λ (m : ℕ). line_onto w i (numbers_in m (parts_from 44 s p))) q
        ∙ ap (λ (fs : List (List ℕ)). line_onto w i (numbers_in 0 fs)) here
        ∙ ap (line_onto w i) (numbers-over field (parts_from 44 s (e + 1))))

    module _ (g : i < n) where
      next : walked ≡ line_onto w i (cons (number field) (numbers_in (n - (i + 1)) (parts_from 44 s (e + 1))))
      next =
          let q : n - i ≡ suc (n - (i + 1)) = omega arith in
          ap (λ (m : ℕ). line_onto w i (numbers_in m (parts_from 44 s p))) q
          ∙ ap (λ (fs : List (List ℕ)). line_onto w i (numbers_in (suc (n - (i + 1))) fs)) here
          ∙ ap (line_onto w i) (numbers_more (n - (i + 1)) field (parts_from 44 s (e + 1)))

      pub fields-bad : number field ≡ none → None ≡ walked
      fields-bad f = onto-bad w i _
          ∙ sym (next ∙ ap (λ (o : Option ℤ). line_onto w i (cons o (numbers_in (n - (i + 1)) (parts_from 44 s (e + 1))))) f)

      pub fields-more : (v : ℤ) → number field ≡ some v → line_onto (set w i v) (i + 1) (numbers_in (n - (i + 1)) (parts_from 44 s (e + 1))) ≡ walked
      fields-more v f =
          onto-more w i v _ ∙ sym (next ∙ ap (λ (o : Option ℤ). line_onto w i (cons o (numbers_in (n - (i + 1)) (parts_from 44 s (e + 1))))) f)

pub walked-first : (s : List ℕ) (n p : ℕ) → walked s n p (zeros record_most) 0 ≡ line_of (numbers_in n (parts_from 44 s p))
walked-first s n p = let q : n - 0 ≡ n = omega arith in rw q (onto-first (numbers_in n (parts_from 44 s p)))

-- ---- the letter

head-long : (letter n : ℕ) (f : List ℕ) (fs : List (List ℕ)) → (length f ≡ 1 → ⊥) → fields_of letter n (f ∷ fs) ≡ none
unfolding fields_of
head-long letter n [] fs h = refl
head-long letter n (b ∷ bs) fs h = rw (ne_eqb (length bs) 0 (λ q. h (omega arith)), and-false)

head-other : (letter n : ℕ) (f : List ℕ) (fs : List (List ℕ)) → (get_or f 0 0 ≡ letter → ⊥) → fields_of letter n (f ∷ fs) ≡ none
unfolding fields_of
head-other letter n [] fs h = refl
head-other letter n (b ∷ bs) fs h = rw (ne_eqb b letter h)

head-good : (letter n : ℕ) (f : List ℕ) (fs : List (List ℕ)) → length f ≡ 1 → get_or f 0 0 ≡ letter → fields_of letter n (f ∷ fs) ≡ numbers_in n fs
unfolding fields_of numbers_in
head-good letter n [] fs h e = absurd (omega arith)
head-good letter n (b ∷ bs) fs h e = rw (eq-eqb b letter e, eq-eqb (length bs) 0 (omega arith))

-- a line whose first field ends at e
module _ (letter n : ℕ) (s : List ℕ) (e : ℕ) (k : e ≡ 0 + length (until 44 s)) where
  first : line letter n s ≡ fields_of letter n (take (e - 0) s ∷ parts_from 44 s (e + 1))
  unfolding line
  first = ap (fields_of letter n) (sym (parts_all 44 s) ∙ parts_next 44 s (omega arith) k)

  first-length : length (take (e - 0) s) ≡ e
  first-length = let h = part-ends 44 s {p = 0} (omega arith) k in let q : e - 0 ≡ e = omega arith in rw q (length-take-le e s h)

  pub line-long : (e ≡ 1 → ⊥) → line letter n s ≡ none
  line-long h = first ∙ head-long letter n _ _ (λ q. h (sym first-length ∙ q))

  module _ (h : e ≡ 1) where
    letter-is : get_or (take (e - 0) s) 0 0 ≡ get_or s 0 0
    letter-is = get_or-take (e - 0) s 0 0 (omega arith)

    pub line_other : (get_or s 0 0 ≡ letter → ⊥) → line letter n s ≡ none
    line_other g = first ∙ head-other letter n _ _ (λ q. g (sym letter-is ∙ q))

    pub line-good : get_or s 0 0 ≡ letter → line letter n s ≡ numbers_in n (parts_from 44 s 2)
    line-good g =
        let q : e + 1 ≡ 2 = omega arith in
        first ∙ head-good letter n _ _ (first-length ∙ h) (letter-is ∙ g) ∙ ap (λ (p : ℕ). numbers_in n (parts_from 44 s p)) q

-- ---- a line has as many words as it should

cons-some : (o : Option ℤ) (os : Option (List ℤ)) {ws : List ℤ} → cons o os ≡ some ws → (w : ℤ) × (vs : List ℤ) × (os ≡ some vs) × (w ∷ vs ≡ ws)
unfolding cons
cons-some none os e = let z : ◌≡◌ {A = ℕ} 0 1 = cc in absurd (omega arith)
cons-some (some w) none e = let z : ◌≡◌ {A = ℕ} 0 1 = cc in absurd (omega arith)
cons-some (some w) (some vs) e = (w, vs, refl, cc)

numbers-length : (fs : List (List ℕ)) (ws : List ℤ) → numbers fs ≡ some ws → length ws ≡ length fs
unfolding numbers
numbers-length [] ws e = let q : [] ≡ ws = cc in ap length (sym q)
numbers-length (f ∷ fs) ws e =
    let k = cons-some (number f) (numbers fs) e in
    ap length (sym k.3) ∙ ap suc (numbers-length fs k.1 k.2)

if_some : (b : Bool) {o : Option (List ℤ)} {ws : List ℤ} → cond b o none ≡ some ws → (b ≡ true) × (o ≡ some ws)
if_some true e = (refl, e)
if_some false e = let z : ◌≡◌ {A = ℕ} 0 1 = cc in absurd (omega arith)

fields-length : (letter n : ℕ) (fs : List (List ℕ)) (ws : List ℤ) → fields_of letter n fs ≡ some ws → length ws ≡ n
unfolding fields_of
fields-length letter n [] ws k = let z : ◌≡◌ {A = ℕ} 0 1 = cc in absurd (omega arith)
fields-length letter n ([] ∷ fs) ws k = let z : ◌≡◌ {A = ℕ} 0 1 = cc in absurd (omega arith)
fields-length letter n ((b ∷ bs) ∷ fs) ws k =
    let t = if_some (eqb b letter && eqb (length bs) 0 && eqb (length fs) n) k in
    let c = and-true {a = eqb b letter && eqb (length bs) 0} t.0 in
    numbers-length fs ws t.1 ∙ eqb-true (length fs) n c.1

pub line-length : (letter n : ℕ) (s : List ℕ) (ws : List ℤ) → line letter n s ≡ some ws → length ws ≡ n
unfolding line
line-length letter n s ws e = fields-length letter n (split 44 s) ws e
