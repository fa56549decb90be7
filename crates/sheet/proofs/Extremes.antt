-- MISSION DEMAND 2, second half: for one row and shape the least and the greatest coordinate found are those of the allowed points,
-- and none is found exactly when no point is allowed (`least-of`, `greatest-of`). One proof serves both, over the order, and any
-- test whose points lie in the row's ranges. Assumes nothing.
use mathlib.Core.Path.{◌≡◌, refl, sym, ap, subst, subst⁻¹}
use mathlib.Core.Logic.{⊎_elim}
use mathlib.Core.Bool.{Bool, true, false}
use mathlib.Core.List.{List}
use mathlib.Core.Option.{Option, none, some}
use Prim.Native.Nat.{ℕ, ◌≤◌, ◌<◌}
use lib.IntN.{ℤ, pos, ◌+ℤ◌, ◌-ℤ◌}
use Rattle.integers.specs.Integer.{nat, width}
use Rattle.integers.specs.Below.{least_below, greatest_below}
use Rattle.integers.specs.Words.{word}
use Rattle.integers.proofs.Booleans.{clash}
use Rattle.integers.proofs.Ints.{≤ℤ-antisym}
use Rattle.integers.proofs.Below.{least-view, greatest-view}
use Rattle.integers.proofs.Ranges.{count, count-below, counts}
use Rattle.sheet.specs.Layout.{axes, low, high}
use Rattle.sheet.specs.Allowed.{in_ranges, allowed}
use Rattle.sheet.specs.Bounds.{Extreme, nowhere, there, Least, Greatest, above, reaches, least_by, greatest_by, least_of, greatest_of}
use Rattle.sheet.proofs.Forbidden.{allowed-parts, in-range}
use Rattle.sheet.proofs.Coordinates.{allowed-agree}
use Rattle.sheet.proofs.Points.{Respects, reached-at, reaches-by}

-- none of the numbers below n passes g; or c does, and each that passes stands after it
data Picked (after : ℕ → ℕ → Type 0) (n : ℕ) (g : ℕ → Bool) : Option ℕ → Type 0 where
  no_number : ((b : ℕ) → b < n → g b ≡ false) → Picked after n g none
  number : {c : ℕ} → g c ≡ true → ((b : ℕ) → b < n → g b ≡ true → after c b) → Picked after n g (some c)

least-picked : (n : ℕ) (g : ℕ → Bool) → Picked (λ c b. c ≤ b) n g (least_below n g)
least-picked n g =
    ⊎_elim
    (λ w. subst⁻¹ (Picked (λ c b. c ≤ b) n g) w.is (number w.passes (λ b l e. w.first b e)))
    (λ w. subst⁻¹ (Picked (λ c b. c ≤ b) n g) w.0 (no_number w.1))
    (least-view n g)

greatest-picked : (n : ℕ) (g : ℕ → Bool) → Picked (λ c b. b ≤ c) n g (greatest_below n g)
greatest-picked n g =
    ⊎_elim
    (λ w. subst⁻¹ (Picked (λ c b. b ≤ c) n g) w.is (number w.passes w.last))
    (λ w. subst⁻¹ (Picked (λ c b. b ≤ c) n g) w.0 (no_number w.1))
    (greatest-view n g)

module _ (block : List ℤ) (table : List ℤ) (i : ℕ) (f : List ℤ → Bool) (agree : Respects block table i f)
    (ranged : (p : List ℤ) → f p ≡ true → in_ranges block table i p ≡ true) (d : ℕ) (hd : d < axes block) where
  -- the numbers of the range, counted from its low end
  abbrev from : ℤ
  from = low block table i d

  abbrev is-reached : ℕ → Bool
  is-reached c = reaches block table i f d (from +ℤ pos c)

  abbrev at : List ℤ → ℕ
  at p = nat (word p d -ℤ from)

  counted : (p : List ℤ) → f p ≡ true → from +ℤ pos (at p) ≡ word p d
  counted p e = count (in-range block table i d p (ranged p e) hd).0

  below : (p : List ℤ) → f p ≡ true → at p < width from (high block table i d)
  below p e = let r = in-range block table i d p (ranged p e) hd in count-below r.0 r.1

  hit : (p : List ℤ) → f p ≡ true → is-reached (at p) ≡ true
  hit p e = reaches-by block table i f agree d _ hd p (ranged p e) e (sym (counted p e))

  picked-extreme : {after : ℕ → ℕ → Type 0} {before : ℤ → ℤ → Type 0}
      → ((m n : ℕ) → after m n → before (from +ℤ pos m) (from +ℤ pos n))
      → (o : Option ℕ) → Picked after (width from (high block table i d)) is-reached o → Extreme before f d (above from o)
  unfolding above
  picked-extreme mono none (no_number h) = nowhere (λ p e. clash (hit p e) (h (at p) (below p e)))
  picked-extreme {before = before} mono (some c) (number e h) =
      let q = reached-at block table i f d _ e in
      there q.0 q.1 q.2 (λ p x.
      subst (λ (z : ℤ). before (from +ℤ pos c) z) (counted p x) (mono c (at p) (h (at p) (below p x) (hit p x))))

  pub least-by : Least f d (least_by block table i f d)
  unfolding least_by
  least-by = picked-extreme {after = λ c b. c ≤ b} (λ m n h. counts from h) _ (least-picked _ is-reached)

  pub greatest-by : Greatest f d (greatest_by block table i f d)
  unfolding greatest_by
  greatest-by = picked-extreme {after = λ c b. b ≤ c} (λ m n h. counts from h) _ (greatest-picked _ is-reached)

-- ---- the points at which row i is allowed with shape s
module _ (block : List ℤ) (table : List ℤ) (i s d : ℕ) (hd : d < axes block) where
  agree : Respects block table i (allowed block table i s)
  agree p q h = allowed-agree block table p q h i s

  pub least-of : Least (allowed block table i s) d (least_of block table i s d)
  unfolding least_of
  least-of = least-by block table i (allowed block table i s) agree (λ p e. (allowed-parts block table i s p e).0) d hd

  pub greatest-of : Greatest (allowed block table i s) d (greatest_of block table i s d)
  unfolding greatest_of
  greatest-of = greatest-by block table i (allowed block table i s) agree (λ p e. (allowed-parts block table i s p e).0) d hd

-- ---- one finding: two extremes of one test are equal, so whatever shows `Least` finds `least_of`
extreme-unique : {before : ℤ → ℤ → Type 0} {f : List ℤ → Bool} {d : ℕ} → ((a b : ℤ) → before a b → before b a → a ≡ b)
    → (o o' : Option ℤ) → Extreme before f d o → Extreme before f d o' → o ≡ o'
extreme-unique antisym none none x y = refl
extreme-unique antisym none (some b) (nowhere h) (there p e w g) = absurd (h p e)
extreme-unique antisym (some a) none (there p e w g) (nowhere h) = absurd (h p e)
extreme-unique {before = before} antisym (some a) (some b) (there p e w g) (there q f x h) =
    ap some (antisym a b (subst (before a) x (g q f)) (subst (before b) w (h p e)))

pub least-unique : {f : List ℤ → Bool} {d : ℕ} (o o' : Option ℤ) → Least f d o → Least f d o' → o ≡ o'
least-unique = extreme-unique (λ a b h k. ≤ℤ-antisym h k)

pub greatest-unique : {f : List ℤ → Bool} {d : ℕ} (o o' : Option ℤ) → Greatest f d o → Greatest f d o' → o ≡ o'
greatest-unique = extreme-unique (λ a b h k. ≤ℤ-antisym k h)
