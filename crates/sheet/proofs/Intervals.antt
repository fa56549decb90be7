-- The thirteen relations, of any two intervals that are not empty: exactly one holds, the one that the four comparisons tell
-- (`exactly-one`), and exchanging the two gives the converse (`exchanged`). Its number tells a relation (`number-tells`). Assumes nothing.
use mathlib.Core.Path.{◌≡◌, refl, sym, ap, ap₂, ◌∙◌, subst}
use mathlib.Core.Logic.{◌↔◌}
use mathlib.Core.Bool.{Bool, true, false, cond, ◌&&◌}
use mathlib.Core.List.{[], ◌∷◌}
use Prim.Native.Nat.{ℕ, ◌-◌}
use lib.IntN.{ℤ}
use lib.ListN.{get_or}
use lib.Signed.{◌<ℤ◌, lt_z}
use Rattle.integers.specs.Integer.{eq_z}
use Rattle.integers.proofs.Booleans.{clash, both_ways, and-true, true-and}
use Rattle.integers.proofs.Ints.{ints}
use Rattle.sheet.specs.declared.Allen.{Allen}
use Rattle.sheet.specs.declared.Allen.TheVariants as A
use Rattle.sheet.specs.Relation.{bears, relation_number, converse, Comparison, less, equal, greater, compared, relation_by, relation_between}

-- ---- one comparison
pub data Compared (x y : ℤ) : Comparison → Type 0 where
  is-less : lt_z x y ≡ true → Compared x y less
  is-equal : eq_z x y ≡ true → Compared x y equal
  is_greater : lt_z y x ≡ true → Compared x y greater

pub comparison : (x y : ℤ) → Compared x y (compared x y)
unfolding compared
comparison x y = by (lt_z x y) refl (eq_z x y) refl
  where
    by : (s : Bool) → lt_z x y ≡ s → (t : Bool) → eq_z x y ≡ t → Compared x y (cond s less (cond t equal greater))
    by true e t g = is-less e
    by false e true g = is-equal g
    by false e false g = is_greater (omega ints)

pub compared_is : {x y : ℤ} {c : Comparison} → Compared x y c → compared x y ≡ c
unfolding compared
compared_is (is-less e) = rw e
compared_is {x} {y} (is-equal e) = let l : lt_z x y ≡ false = omega ints in rw (l, e)
compared_is {x} {y} (is_greater e) =
    let l : lt_z x y ≡ false = omega ints in
    let n : eq_z x y ≡ false = omega ints in rw (l, n)

-- ---- two intervals
module _ (o e o' e' : ℤ) where
  -- the relation that the comparisons tell holds
  told : {p q r s : Comparison} → Compared e o' p → Compared o e' q → Compared o o' r → Compared e e' s
      → bears (relation_by p q r s) o e o' e' ≡ true
  unfolding bears relation_by
  told (is-less t) v w x = t
  told (is-equal t) v w x = t
  told (is_greater t) (is_greater v) w x = v
  told (is_greater t) (is-equal v) w x = omega ints
  told (is_greater t) (is-less v) (is-less w) (is-less x) = true-and (true-and w x) t
  told (is_greater t) (is-less v) (is-less w) (is-equal x) = true-and w x
  told (is_greater t) (is-less v) (is-less w) (is_greater x) = true-and w x
  told (is_greater t) (is-less v) (is-equal w) (is-less x) = true-and w x
  told (is_greater t) (is-less v) (is-equal w) (is-equal x) = true-and w x
  told (is_greater t) (is-less v) (is-equal w) (is_greater x) = true-and w x
  told (is_greater t) (is-less v) (is_greater w) (is-less x) = true-and w x
  told (is_greater t) (is-less v) (is_greater w) (is-equal x) = true-and w x
  told (is_greater t) (is-less v) (is_greater w) (is_greater x) = true-and (true-and w v) x

  pub found-holds : bears (relation_between o e o' e') o e o' e' ≡ true
  unfolding relation_between
  found-holds = told (comparison e o') (comparison o e') (comparison o o') (comparison e e')

  -- what the comparisons tell, from each of them
  by-four : {p q r s : Comparison} → Compared e o' p → Compared o e' q → Compared o o' r → Compared e e' s
      → relation_between o e o' e' ≡ relation_by p q r s
  unfolding relation_between
  by-four t v w x = rw (compared_is t, compared_is v, compared_is w, compared_is x)

  module _ (long : o <ℤ e) (long' : o' <ℤ e') where
    -- no other relation holds
    only : (x : Allen) → bears x o e o' e' ≡ true → relation_between o e o' e' ≡ x
    unfolding bears relation_by
    only A.Precedes t = by-four (is-less t) (comparison o e') (comparison o o') (comparison e e')
    only A.Meets t = by-four (is-equal t) (comparison o e') (comparison o o') (comparison e e')
    only A.Overlaps t =
        let w = and-true t in let v = and-true w.0 in
        by-four (is_greater w.1) (is-less (omega (ints, v.0, v.1))) (is-less v.0) (is-less v.1)
    only A.Contains t =
        let w = and-true t in
        by-four (is_greater (omega (ints, w.0, w.1))) (is-less (omega (ints, w.0, w.1))) (is-less w.0) (is_greater w.1)
    only A.Starts t =
        let w = and-true t in
        by-four (is_greater (omega (ints, w.0, w.1))) (is-less (omega (ints, w.0, w.1))) (is-equal w.0) (is-less w.1)
    only A.Finishes t =
        let w = and-true t in
        by-four (is_greater (omega (ints, w.0, w.1))) (is-less (omega (ints, w.0, w.1))) (is_greater w.0) (is-equal w.1)
    only A.Equals t =
        let w = and-true t in
        by-four (is_greater (omega (ints, w.0, w.1))) (is-less (omega (ints, w.0, w.1))) (is-equal w.0) (is-equal w.1)
    only A.StartedBy t =
        let w = and-true t in
        by-four (is_greater (omega (ints, w.0, w.1))) (is-less (omega (ints, w.0, w.1))) (is-equal w.0) (is_greater w.1)
    only A.FinishedBy t =
        let w = and-true t in
        by-four (is_greater (omega (ints, w.0, w.1))) (is-less (omega (ints, w.0, w.1))) (is-less w.0) (is-equal w.1)
    only A.During t =
        let w = and-true t in
        by-four (is_greater (omega (ints, w.0, w.1))) (is-less (omega (ints, w.0, w.1))) (is_greater w.0) (is-less w.1)
    only A.OverlappedBy t =
        let w = and-true t in let v = and-true w.0 in
        by-four (is_greater (omega (ints, v.0, w.1))) (is-less v.1) (is_greater v.0) (is_greater w.1)
    only A.MetBy t = by-four (is_greater (omega ints)) (is-equal (omega ints)) (comparison o o') (comparison e e')
    only A.PrecededBy t = by-four (is_greater (omega ints)) (is_greater t) (comparison o o') (comparison e e')

    -- EXACTLY ONE relation holds, and it is the one that the comparisons tell
    pub exactly-one : (x : Allen) → (bears x o e o' e' ≡ true) ↔ (x ≡ relation_between o e o' e')
    exactly-one x = (λ t. sym (only x t), λ q. subst (λ (y : Allen). bears y o e o' e' ≡ true) (sym q) found-holds)

-- ---- exchanged
eq_z-comm : (x y : ℤ) → eq_z x y ≡ eq_z y x
eq_z-comm x y = both_ways (eq_z x y) (eq_z y x) (λ t. omega ints) (λ t. omega ints)

last-two : (a b c : Bool) → (a && b && c) ≡ true → (a && c && b) ≡ true
last-two true true true t = t
last-two true true false t = t
last-two true false c t = clash t refl
last-two false b c t = clash t refl

holds-exchanged : (x : Allen) (o e o' e' : ℤ) → bears x o e o' e' ≡ true → bears (converse x) o' e' o e ≡ true
unfolding bears converse
holds-exchanged A.Precedes o e o' e' t = t
holds-exchanged A.Meets o e o' e' t = t
holds-exchanged A.Overlaps o e o' e' t = last-two (lt_z o o') (lt_z e e') (lt_z o' e) t
holds-exchanged A.Contains o e o' e' t = t
holds-exchanged A.Starts o e o' e' t = ap₂ ◌&&◌ (eq_z-comm o' o) refl ∙ t
holds-exchanged A.Finishes o e o' e' t = ap (λ (b : Bool). lt_z o' o && b) (eq_z-comm e' e) ∙ t
holds-exchanged A.Equals o e o' e' t = ap₂ ◌&&◌ (eq_z-comm o' o) (eq_z-comm e' e) ∙ t
holds-exchanged A.StartedBy o e o' e' t = ap₂ ◌&&◌ (eq_z-comm o' o) refl ∙ t
holds-exchanged A.FinishedBy o e o' e' t = ap (λ (b : Bool). lt_z o o' && b) (eq_z-comm e' e) ∙ t
holds-exchanged A.During o e o' e' t = t
holds-exchanged A.OverlappedBy o e o' e' t = last-two (lt_z o' o) (lt_z o e') (lt_z e' e) t
holds-exchanged A.MetBy o e o' e' t = t
holds-exchanged A.PrecededBy o e o' e' t = t

-- EXCHANGE: what the second interval bears to the first is the converse
pub exchanged : (o e o' e' : ℤ) → o <ℤ e → o' <ℤ e' → relation_between o' e' o e ≡ converse (relation_between o e o' e')
exchanged o e o' e' long long' =
    only o' e' o e long' long (converse (relation_between o e o' e')) (holds-exchanged (relation_between o e o' e') o e o' e' (found-holds o e o' e'))

-- ---- numbers
unfoldable numbered : ℕ → Allen
numbered n =
    get_or
    (A.Precedes ∷ A.Meets ∷ A.Overlaps ∷ A.Contains ∷ A.Starts ∷ A.Finishes ∷ A.Equals ∷ A.StartedBy ∷ A.FinishedBy ∷ A.During ∷ A.OverlappedBy
    ∷ A.MetBy ∷ A.PrecededBy ∷ []) (n - 1) A.Precedes

numbered-back : (x : Allen) → numbered (relation_number x) ≡ x
unfolding numbered relation_number
numbered-back A.Precedes = refl
numbered-back A.Meets = refl
numbered-back A.Overlaps = refl
numbered-back A.Contains = refl
numbered-back A.Starts = refl
numbered-back A.Finishes = refl
numbered-back A.Equals = refl
numbered-back A.StartedBy = refl
numbered-back A.FinishedBy = refl
numbered-back A.During = refl
numbered-back A.OverlappedBy = refl
numbered-back A.MetBy = refl
numbered-back A.PrecededBy = refl

-- two relations with one number are the same
pub number-tells : (x y : Allen) → relation_number x ≡ relation_number y → x ≡ y
number-tells x y e = sym (numbered-back x) ∙ ap numbered e ∙ numbered-back y
