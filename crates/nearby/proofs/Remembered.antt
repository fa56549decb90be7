-- Known areas: what it is to clear them and to remember one more. An area that is all forbidden can be remembered, and the list stays one.
-- Assumes nothing.
use Rattle.std.proofs.Common.{Some}
use Rattle.std.proofs.lemmas.Option.{IfSome_then}
use mathlib.Core.Path.{◌≡◌, refl, sym, ap, ◌∙◌, subst}
use mathlib.Core.Logic.{inl, inr, ⊎_elim}
use mathlib.Core.Bool.{Bool, true, false}
use mathlib.Core.List.{List}
use Prim.Native.Nat.{ℕ, ◌+◌, ◌≤◌, ◌<◌}
use native.Mathlib.Omega.{arith}
use lib.IntN.{ℤ, pos}
use lib.ListN.{length, set}
use lib.Seq.{get_or-set_same}
use Rattle.integers.specs.Integer.{nat}
use Rattle.integers.specs.Words.{word}
use Rattle.integers.proofs.Booleans.{clash, decide, fails}
use Rattle.integers.proofs.Below.{last_or, any_at, any-true}
use Rattle.integers.proofs.Ints.{ints}
use Rattle.sheet.specs.Layout.{axes}
use Rattle.sheet.specs.Allowed.{forbidden}
use Rattle.points.specs.declared.Area.{Area}
use Rattle.points.specs.Area.{area_words, in_area, Small, area_at}
use Rattle.forbid.specs.Region.{IsRegion}
use Rattle.nearby.specs.declared.Nearby.{Nearby}
use Rattle.points.specs.Ends.{SameBut}
use Rattle.nearby.specs.Places.{known_most, known_at, known_count, known_area}
use Rattle.nearby.specs.Known.{Counted, Remembered, known_holds, KnownAt}
use Rattle.nearby.specs.Listing.{Known, Listed}
use Rattle.points.proofs.Runs.{same_none, same_set, area-kept}

-- ---- the words
pub counted-by : {known : List ℤ} {n : ℕ} → word known 0 ≡ pos n → n ≤ known_most → Counted known
counted-by e h = record { count = record { from = omega (ints, e); upto = omega (ints, e) }; few = rw e h }

module _ {l m l' : List ℤ} {area : Area} {n : ℕ} (all : n ≡ known_count l) (room : n < known_most) (long : 0 < length m)
    (put : SameBut (known_at n) area_words l m) (is : area_at m (known_at n) ≡ area) (set-count : l' ≡ set m 0 (pos (n + 1))) where
  first : word l' 0 ≡ pos (n + 1)
  first = ap (λ (k : List ℤ). word k 0) set-count ∙ get_or-set_same m 0 (pos (n + 1)) (pos 0) long

  counted-one : SameBut 0 1 m l'
  counted-one = subst (SameBut 0 1 m) (sym set-count) (same_set 0 (pos (n + 1)) (same_none 0 1 m) (omega arith) (omega arith))

  pub remembered : Remembered l area true l'
  remembered = record {
    counted = counted-by first (omega arith);
    same = λ f. clash refl f;
    count = λ t. ap nat first ∙ omega arith;
    kept = λ t e h. area-kept (known_at e) counted-one (inr (omega arith)) ∙ area-kept (known_at e) put (inl (omega arith));
    new = λ t. ap (known_area l') (sym all) ∙ area-kept (known_at n) counted-one (inr (omega arith)) ∙ is;
  }

pub not-remembered : {l : List ℤ} {area : Area} → Counted l → Remembered l area false l
not-remembered c = record {
  counted = c;
  same = λ f. refl;
  count = λ t. clash t refl;
  kept = λ t. clash t refl;
  new = λ t. clash t refl;
}

-- ---- the points that they hold
module _ (block p : List ℤ) {known known' : List ℤ} {area : Area} {had-room : Bool} (x : Remembered known area had-room known') where
  pub held-before : known_holds block known' p ≡ false → known_holds block known p ≡ false
  unfolding known_holds
  held-before f = fails (λ t. let w = any_at t in clash
      (⊎_elim
      (λ r. any-true (λ e. in_area (axes block) (known_area known' e) p) w.0 (omega (arith, w.1, x.count r))
      (ap (λ (a : Area). in_area (axes block) a p) (x.kept r w.0 w.1) ∙ w.2))
      (λ r. subst (λ (k : List ℤ). known_holds block k p ≡ true) (sym (x.same r)) t)
      (decide had-room)) f)

  pub held_new : had-room ≡ true → in_area (axes block) area p ≡ true → known_holds block known' p ≡ true
  unfolding known_holds
  held_new r h =
      any-true (λ e. in_area (axes block) (known_area known' e) p) (known_count known) (omega (arith, x.count r))
      (ap (λ (a : Area). in_area (axes block) a p) (x.new r) ∙ h)

-- ---- known areas are forbidden
module _ (block t : List ℤ) (i s : ℕ) where
  -- all of the area is forbidden
  pub record Filled (area : Area) : Type 0 where
    pub forbids : (q : List ℤ) → in_area (axes block) area q ≡ true → forbidden block t i s q ≡ true
    pub small : Small area

module _ {block t : List ℤ} {i s : ℕ} where
  pub known-none : {known : List ℤ} → Counted known → known_count known ≡ 0 → Known block t i s known
  known-none c z = record {
    counted = c;
    small = λ e h. absurd (omega (arith, z));
    forbids = λ e h. absurd (omega (arith, z));
  }

  pub filled_at : {known : List ℤ} → Known block t i s known → (e : ℕ) → e < known_count known → Filled block t i s (known_area known e)
  filled_at w e h = record { forbids = w.forbids e h; small = w.small e h }

  known_by : {known : List ℤ} → Counted known → ((e : ℕ) → e < known_count known → Filled block t i s (known_area known e)) → Known block t i s known
  known_by c f = record { counted = c; small = λ e h. (f e h).small; forbids = λ e h. (f e h).forbids }

  pub known_more : {known known' : List ℤ} {area : Area} {had-room : Bool} → Known block t i s known → Filled block t i s area
      → Remembered known area had-room known' → Known block t i s known'
  known_more {known} {known'} {area} {had-room} w a x = ⊎_elim
      (λ r. known_by x.counted (λ e h. ⊎_elim
      (λ q. subst (Filled block t i s) (sym (ap (known_area known') q ∙ x.new r)) a)
      (λ l. subst (Filled block t i s) (sym (x.kept r e l)) (filled_at w e l))
      (last_or {i = e} {n = known_count known} (omega (arith, x.count r)))))
      (λ r. subst (Known block t i s) (sym (x.same r)) w)
      (decide had-room)

  -- a point in one of them
  pub known-forbids : {known p : List ℤ} {a : Area} → Known block t i s known → KnownAt block known p a
      → IsRegion (axes block) (forbidden block t i s) p (Some a)
  known-forbids {p = p} w k =
      let f = subst (Filled block t i s) (sym k.is) (filled_at w k.entry k.below) in
      record { hit = sym (f.forbids p k.holds); around = k.holds; only = f.forbids; small = f.small }

  pub filled-region : {p : List ℤ} {a : Area} → IsRegion (axes block) (forbidden block t i s) p (Some a) → Filled block t i s a
  filled-region f = record { forbids = f.only; small = f.small }

pub listed-remembered : {block t : List ℤ} {x : Nearby} {list known known' : List ℤ} {area : Area} {had-room : Bool}
    → Listed block t x list known → Filled block t x.i.number x.s area → Remembered known area had-room known' → Listed block t x list known'
listed-remembered {block} {x = x} w a r = record {
  areas = known_more w.areas a r;
  suspects = w.suspects;
  meets = IfSome_then x.count w.meets (λ n f p inside none. f p inside (held-before block p r none));
}
