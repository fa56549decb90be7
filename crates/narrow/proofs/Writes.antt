-- Writing one word after the other: what the run is then, and whether it has changed so far (`written-more`, `written-pair`,
-- `written-front`). Assumes nothing.
use mathlib.Core.Path.{◌≡◌, refl, sym, ap, ◌∙◌, subst}
use mathlib.Core.Bool.{Bool, true, false, not, ◌&&◌, ◌||◌}
use mathlib.Core.List.{List, [], ◌∷◌, ◌++◌, append_assoc}
use Prim.Native.Nat.{ℕ, suc, ◌+◌, ◌*◌, ◌≤◌, ◌<◌}
use native.Mathlib.Numerals.{add-one}
use native.Mathlib.Omega.{arith}
use lib.IntN.{ℤ, pos}
use lib.ListN.{length, length-append, get_or, set, take, drop}
use lib.Seq.{get_or-set_same, set-get_or, set_at, take-suc, length-take-le}
use Rattle.integers.specs.Integer.{eq_z}
use Rattle.integers.specs.Words.{word, pairs_below, replaced, same_words}
use Rattle.integers.proofs.Booleans.{both_ways, and-true, true-and}
use Rattle.integers.proofs.Ints.{eq_z-eq, eq-eq_z}
use Rattle.integers.proofs.Lists.{same-eq, same_refl, length-pairs_below, pairs_below-more}
use Rattle.integers.proofs.Lists.{length-replaced, replaced-before, replaced-after, replaced-none, replaced-more}

-- word `at` of the run is still the first one: writing w there changes the run where w is another
module _ (now first : List ℤ) (at : ℕ) (w : ℤ) (l : at < length now) (fresh : word now at ≡ word first at) where
  same-words : (xs ys : List ℤ) → xs ≡ ys → same_words xs ys ≡ true
  same-words xs ys e = subst (λ (zs : List ℤ). same_words xs zs ≡ true) e (same_refl xs)

  set_own : word now at ≡ w → set now at w ≡ now
  set_own e = ap (set now at) (sym e) ∙ set-get_or now at (pos 0)

  put_same : same_words (set now at w) first ≡ (same_words now first && eq_z (word now at) w)
  put_same = both_ways _ _
      (λ e.
      let q = same-eq e in
      let k : word now at ≡ w = fresh ∙ ap (λ (u : List ℤ). word u at) (sym q) ∙ get_or-set_same now at w (pos 0) l in
      true-and (same-words now first (sym (set_own k) ∙ q)) (eq-eq_z k))
      (λ e. let u = and-true {a = same_words now first} e in same-words (set now at w) first (set_own (eq_z-eq u.1) ∙ same-eq u.0))

  de-morgan : (a b : Bool) → (not a || not b) ≡ not (a && b)
  de-morgan true b = refl
  de-morgan false b = refl

  put-moved : {moved : Bool} → moved ≡ not (same_words now first) → (moved || not (eq_z (word now at) w)) ≡ not (same_words (set now at w) first)
  put-moved e = ap (λ (b : Bool). b || not (eq_z (word now at) w)) e ∙ de-morgan (same_words now first) (eq_z (word now at) w) ∙ ap not (sym put_same)

-- the word before them all
replaced-front : (words new : List ℤ) (at : ℕ) (v : ℤ) → at < length words → set (replaced words (at + 1) new) at v ≡ replaced words at (v ∷ new)
unfolding replaced
replaced-front words new at v h =
    ap (λ (l : List ℤ). set (l ++ (new ++ drop (at + 1 + length new) words)) at v)
    (ap (λ (n : ℕ). take n words) (add-one at) ∙ take-suc words at (pos 0) h)
    ∙ ap (λ (l : List ℤ). set l at v) (append_assoc (take at words) (get_or words at (pos 0) ∷ []) (new ++ drop (at + 1 + length new) words))
    ∙ set_at (take at words) (get_or words at (pos 0)) (new ++ drop (at + 1 + length new) words) v at (length-take-le at words (omega arith))
    ∙ ap (λ (n : ℕ). take at words ++ (v ∷ (new ++ drop n words))) next
  where
    next : at + 1 + length new ≡ at + suc (length new)
    next = omega arith

-- `now` is `first` with the words `new` from `at` on, and `moved` tells whether it differs
pub record Written (first : List ℤ) (at : ℕ) (new now : List ℤ) (moved : Bool) : Type 0 where
  pub is : now ≡ replaced first at new
  pub tells : moved ≡ not (same_words now first)

pub written_none : (first : List ℤ) (at : ℕ) → Written first at [] first false
written_none first at = record { is = sym (replaced-none first at); tells = ap not (sym (same_refl first)) }

module _ {first now : List ℤ} {at : ℕ} {new : List ℤ} {moved : Bool} (w : Written first at new now moved)
    (fits : at + length new ≤ length first) where
  pub length-written : length now ≡ length first
  length-written = ap length w.is ∙ length-replaced first at new fits

  -- a word that is still the first one is written
  module _ (p : ℕ) (v : ℤ) {after : List ℤ} {told : Bool} (kept : word (replaced first at new) p ≡ word first p) (l : p < length first)
      (is : after ≡ set now p v) (tells : told ≡ (moved || not (eq_z (word now p) v))) where
    told-so : told ≡ not (same_words after first)
    told-so =
        tells ∙ put-moved now first p v (omega (arith, length-written)) (ap (λ (u : List ℤ). word u p) w.is ∙ kept) w.tells
        ∙ ap (λ (u : List ℤ). not (same_words u first)) (sym is)

    set_so : after ≡ set (replaced first at new) p v
    set_so = is ∙ ap (λ (u : List ℤ). set u p v) w.is

-- one word more
pub written-more : {first now : List ℤ} {at : ℕ} {new : List ℤ} {moved : Bool} → Written first at new now moved
    → (p : ℕ) (v : ℤ) {after : List ℤ} {told : Bool}
    → p ≡ at + length new → p < length first → after ≡ set now p v → told ≡ (moved || not (eq_z (word now p) v))
    → Written first at (new ++ (v ∷ [])) after told
written-more {first} {now} {at} {new} w p v e l is tells =
    let fits : at + length new ≤ length first = omega arith in
    let kept = replaced-after first at new fits p (omega arith) in
    record {
      is = set_so w fits p v kept l is tells ∙ ap (λ (q : ℕ). set (replaced first at new) q v) e ∙ replaced-more first at new v (omega arith);
      tells = told-so w fits p v kept l is tells;
    }

-- the word before them
pub written-front : {first now : List ℤ} {at : ℕ} {new : List ℤ} {moved : Bool} → Written first (at + 1) new now moved
    → (v : ℤ) {after : List ℤ} {told : Bool}
    → at + 1 + length new ≤ length first → after ≡ set now at v → told ≡ (moved || not (eq_z (word now at) v)) → Written first at (v ∷ new) after told
written-front {first} {now} {at} {new} w v fits is tells =
    let kept = replaced-before first (at + 1) new fits at (omega arith) in
    record {
      is = set_so w fits at v kept (omega arith) is tells ∙ replaced-front first new at v (omega arith);
      tells = told-so w fits at v kept (omega arith) is tells;
    }

-- a pair of words more
pub written-pair : {first now mid after : List ℤ} {at : ℕ} (d : ℕ) (f g : ℕ → ℤ) {moved told last : Bool}
    → Written first at (pairs_below d f g) now moved → (p q : ℕ) → p ≡ at + 2 * d → q ≡ suc p → q < length first
    → mid ≡ set now p (f d) → told ≡ (moved || not (eq_z (word now p) (f d)))
    → after ≡ set mid q (g d) → last ≡ (told || not (eq_z (word mid q) (g d)))
    → Written first at (pairs_below (d + 1) f g) after last
written-pair {first} {after = after} {at} d f g {last = last} w p q e h l a b m n =
    let long = length-pairs_below d f g in
    let low = written-more w p (f d) (omega (arith, long)) (omega arith) a b in
    subst (λ (ws : List ℤ). Written first at ws after last) (append_assoc (pairs_below d f g) (f d ∷ []) (g d ∷ []) ∙ sym (pairs_below-more d f g))
    (written-more low q (g d) (omega (arith, length-append (pairs_below d f g) (f d ∷ []), long)) l m n)
