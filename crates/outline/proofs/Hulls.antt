-- A hull is made box by box, in one dimension (`spans-none`, `spans-more`), and extents are written dimension by dimension (`written_none`,
-- `written-more`); where every extent of a shape's boxes stands in an outline, its hull does (`hull-of-spans`). Assumes nothing.
use mathlib.Core.Path.{◌≡◌, refl, sym, ap, ap₂, ◌∙◌, subst}
use mathlib.Core.Logic.{◌⊎◌, inl, inr, ⊎_elim}
use mathlib.Core.Bool.{Bool, true, false, cond}
use mathlib.Core.List.{List}
use Prim.Native.Nat.{ℕ, ◌+◌, ◌<◌}
use native.Mathlib.Nat.{eq-or-lt_of_le}
use native.Mathlib.Numerals.{add-one}
use native.Mathlib.Omega.{arith}
use lib.IntN.{ℤ, pos, ◌+ℤ◌}
use lib.ListN.{length, set, length-set}
use lib.Seq.{get_or-set_same, get_or-set_other}
use lib.Signed.{◌≤ℤ◌, le_z}
use Rattle.integers.specs.Integer.{minus, Within}
use Rattle.integers.specs.Words.{word}
use Rattle.integers.proofs.Booleans.{clash}
use Rattle.integers.proofs.Below.{below_or, last_or}
use Rattle.integers.proofs.Ints.{ints, ≤ℤ-trans}
use Rattle.sheet.specs.Layout.{dims, boxes, is_of, offset, size}
use Rattle.sheet.specs.Accepted.{Boxed, Block}
use Rattle.points.specs.Area.{coordinates, max_z, min_z}
use Rattle.outline.specs.declared.solid.Extent.{Extent}
use Rattle.outline.specs.Places.{hull_of, solid_at, start_of, end_of, SameTo}
use Rattle.outline.specs.Chain.{SoleBox}
use Rattle.outline.specs.Solids.{far, StartsAt, EndsAt, Spans, Boxes, Hull}
use Rattle.outline.proofs.Runs.{same_none, same_set}
use Rattle.outline.proofs.Solids.{start-within, end-within, starts-later, ends-later}

-- ---- the lesser and the larger of two
lesser-of : {n : ℕ} {a b y : ℤ} → y ≡ min_z a b → Within n a → Within n b → (y ≤ℤ a) × (y ≤ℤ b) × ((y ≡ a) ⊎ (y ≡ b)) × Within n y
lesser-of {n} {a} {b} {y} e h k = by (le_z a b) refl e
  where
    by : (t : Bool) → le_z a b ≡ t → y ≡ cond t a b → (y ≤ℤ a) × (y ≤ℤ b) × ((y ≡ a) ⊎ (y ≡ b)) × Within n y
    by true g q = (omega ints, omega ints, inl q, omega ints)
    by false g q = (omega ints, omega ints, inr q, omega ints)

larger-of : {n : ℕ} {a b y : ℤ} → y ≡ max_z a b → Within n a → Within n b → (a ≤ℤ y) × (b ≤ℤ y) × ((y ≡ a) ⊎ (y ≡ b)) × Within n y
larger-of {n} {a} {b} {y} e h k = by (le_z a b) refl e
  where
    by : (t : Bool) → le_z a b ≡ t → y ≡ cond t b a → (a ≤ℤ y) × (b ≤ℤ y) × ((y ≡ a) ⊎ (y ≡ b)) × Within n y
    by true g q = (omega ints, omega ints, inr q, omega ints)
    by false g q = (omega ints, omega ints, inl q, omega ints)

-- ---- an extent of a shape's boxes, one after another
pub spans-none : {block : List ℤ} {s d n : ℕ} {x : Extent} → x.start ≡ pos far → x.end ≡ minus far
    → ((b : ℕ) → b < n → is_of block b s ≡ false) → Spans block s d n x
spans-none u w none = record {
  start_near = omega ints;
  end_near = omega ints;
  starts = λ b l e. clash e (none b l);
  ends = λ b l e. clash e (none b l);
  starts_at = inr u;
  ends_at = inr w;
}

-- the extent x holds those before box b, and y is around x and box b; the next box is n
module _ {block : List ℤ} {s d b n : ℕ} {x y : Extent} (accepted : Block block) (below : b < boxes block) (k : d < dims block)
    (is : is_of block b s ≡ true) (old : Spans block s d b x) (starts : y.start ≡ min_z x.start (offset block b d))
    (ends : y.end ≡ max_z x.end (offset block b d +ℤ size block b d)) (after : b < n)
    (skips : (c : ℕ) → b < c → c < n → is_of block c s ≡ false) where
  abbrev from : ℤ
  from = offset block b d

  abbrev to : ℤ
  to = offset block b d +ℤ size block b d

  here-or : (c : ℕ) → c < n → is_of block c s ≡ true → (c ≡ b) ⊎ (c < b)
  here-or c l e = ⊎_elim inr (λ m. ⊎_elim (λ q. inl (sym q)) (λ m. clash e (skips c m l)) (eq-or-lt_of_le m)) (below_or c b)

  least : (y.start ≤ℤ x.start) × (y.start ≤ℤ from) × ((y.start ≡ x.start) ⊎ (y.start ≡ from)) × Within far y.start
  least = lesser-of starts old.start_near (start-within accepted below k)

  greatest : (x.end ≤ℤ y.end) × (to ≤ℤ y.end) × ((y.end ≡ x.end) ⊎ (y.end ≡ to)) × Within far y.end
  greatest = larger-of ends old.end_near (end-within accepted below k)

  pub spans-more : Spans block s d n y
  spans-more = record {
    start_near = least.3;
    end_near = greatest.3;
    starts = λ c l e. ⊎_elim (λ q. rw q least.1) (λ m. ≤ℤ-trans least.0 (old.starts c m e)) (here-or c l e);
    ends = λ c l e. ⊎_elim (λ q. rw q greatest.1) (λ m. ≤ℤ-trans (old.ends c m e) greatest.0) (here-or c l e);
    starts_at = ⊎_elim
        (λ q. ⊎_elim (λ w. inl (starts-later (omega arith) q w)) (λ f. inr (q ∙ f)) old.starts_at)
        (λ q. inl record { box = b; below = after; is = is; at = q }) least.2;
    ends_at = ⊎_elim
        (λ q. ⊎_elim (λ w. inl (ends-later (omega arith) q w)) (λ f. inr (q ∙ f)) old.ends_at)
        (λ q. inl record { box = b; below = after; is = is; at = q }) greatest.2;
  }

-- ---- extents written from a place on, in the first n dimensions
abbrev extent_by : ℤ → ℤ → Extent
extent_by u w = record { start = u; end = w }

abbrev pub extent_at : List ℤ → ℕ → ℕ → Extent
extent_at o at d = extent_by (word o (at + d)) (word o (at + d + coordinates))

pub record Written (at n : ℕ) (P : ℕ → Extent → Type 0) (o o' : List ℤ) : Type 0 where
  pub same : SameTo at o o'
  pub is : (d : ℕ) → d < n → P d (extent_at o' at d)

module _ {at : ℕ} {P : ℕ → Extent → Type 0} where
  pub written_none : (o : List ℤ) → Written at 0 P o o
  written_none o = record { same = same_none at o; is = λ d k. absurd (omega arith) }

  module _ {n : ℕ} {o : List ℤ} (o' : List ℤ) (x : Extent) (few : n < coordinates) (long : at + n + coordinates < length o')
      (old : Written at n P o o') (new : P n x) where
    abbrev one : List ℤ
    one = set o' (at + n) x.start

    abbrev two : List ℤ
    two = set one (at + n + coordinates) x.end

    other : (m : ℕ) → (m ≡ at + n → ⊥) → (m ≡ at + n + coordinates → ⊥) → word two m ≡ word o' m
    other m p q = get_or-set_other one (at + n + coordinates) m x.end (pos 0) q ∙ get_or-set_other o' (at + n) m x.start (pos 0) p

    here : extent_at two at n ≡ x
    here = ap₂ extent_by
        (get_or-set_other one (at + n + coordinates) (at + n) x.end (pos 0) (λ q. omega arith)
        ∙ get_or-set_same o' (at + n) x.start (pos 0) (omega arith))
        (get_or-set_same one (at + n + coordinates) x.end (pos 0) (simp length-set long))

    before : (d : ℕ) → d < n → extent_at two at d ≡ extent_at o' at d
    before d k = ap₂ extent_by
        (other (at + d) (λ e. omega arith) (λ e. omega arith))
        (other (at + d + coordinates) (λ e. omega arith) (λ e. omega arith))

    pub written-more : Written at (n + 1) P o two
    written-more = record {
      same = same_set (at + n + coordinates) x.end (same_set (at + n) x.start old.same (omega arith)) (omega arith);
      is = λ d k. ⊎_elim
          (λ q. subst (λ (d : ℕ). P d (extent_at two at d)) (sym q) (subst (P n) (sym here) new))
          (λ m. subst (P d) (sym (before d m)) (old.is d m)) (last_or (subst (λ (m : ℕ). d < m) (add-one n) k));
    }

-- ---- the hull of a shape that has a box, whose extents are those of its boxes
module _ {block o : List ℤ} {s : ℕ} (accepted : Block block) (boxed : Boxed block s) (all : Boxes block o)
    (spans : (d : ℕ) → d < dims block → Spans block s d (boxes block) (extent_at o (solid_at (hull_of s)) d)) where
  -- no box starts farther than an extent of none does, and none ends farther
  hull-starts : (d : ℕ) → d < dims block → StartsAt block s d (boxes block) (start_of o (hull_of s) d)
  hull-starts d k = ⊎_elim (λ w. w) (λ f. record {
    box = boxed.box;
    below = boxed.below;
    is = boxed.is;
    at =
        let p = start-within accepted boxed.below k in
        let q = (spans d k).starts boxed.box boxed.below boxed.is in
        omega ints;
  }) (spans d k).starts_at

  hull-ends : (d : ℕ) → d < dims block → EndsAt block s d (boxes block) (end_of o (hull_of s) d)
  hull-ends d k = ⊎_elim (λ w. w) (λ f. record {
    box = boxed.box;
    below = boxed.below;
    is = boxed.is;
    at =
        let p = end-within accepted boxed.below k in
        let q = (spans d k).ends boxed.box boxed.below boxed.is in
        omega ints;
  }) (spans d k).ends_at

  -- the only box of the shape
  module _ {b d : ℕ} (x : SoleBox block s b) (k : d < dims block) where
    sole-starts : start_of o b d ≤ℤ start_of o (hull_of s) d
    sole-starts =
        let w = hull-starts d k in
        let e = (all b x.below).starts d k in
        let g = w.at ∙ ap (λ (c : ℕ). offset block c d) (x.only w.box w.below w.is) in
        omega ints

    sole-ends : end_of o (hull_of s) d ≤ℤ end_of o b d
    sole-ends =
        let w = hull-ends d k in
        let e = (all b x.below).ends d k in
        let g = w.at ∙ ap (λ (c : ℕ). offset block c d +ℤ size block c d) (x.only w.box w.below w.is) in
        omega ints

  pub hull-of-spans : Hull block o s
  hull-of-spans = record {
    modest = record { starts = λ d k. (spans d k).start_near; ends = λ d k. (spans d k).end_near };
    holds = λ b l e. record {
      starts = λ d k. rw ((all b l).starts d k) ((spans d k).starts b l e);
      ends = λ d k. rw ((all b l).ends d k) ((spans d k).ends b l e);
    };
    starts_at = hull-starts;
    ends_at = hull-ends;
    sole = λ b x. record { starts = λ d k. sole-starts x k; ends = λ d k. sole-ends x k };
  }
