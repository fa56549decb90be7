-- Laws of pairs of solids: larger solids forbid more, boxes forbid what document 01 says, and hulls forbid what any boxes of their shapes do, and
-- no more where each shape has one box. Assumes nothing.
use mathlib.Core.Path.{◌≡◌, refl, sym, ap, ap₂, ◌∙◌}
use mathlib.Core.Bool.{Bool, true, false}
use mathlib.Core.List.{List}
use Prim.Native.Nat.{ℕ, ◌+◌, ◌<◌}
use native.Mathlib.Omega.{arith}
use lib.IntN.{ℤ}
use lib.ListN.{length, set, length-set}
use mir.Syntax.{w64}
use mir.Val.{to_z, of_z}
use Rattle.integers.specs.Integer.{within}
use Rattle.integers.specs.Below.{◌⇒◌}
use Rattle.integers.specs.Words.{word}
use Rattle.integers.proofs.Booleans.{implies_true, true_implies, implies-in, implies-out}
use Rattle.integers.proofs.Below.{all-at, at_all, all_same}
use Rattle.integers.proofs.Machine.{within_by}
use Rattle.sheet.specs.Layout.{dims, axes, boxes, names_dim}
use Rattle.sheet.specs.Allowed.{pair_forbids, shapes_forbid}
use Rattle.sheet.specs.Accepted.{Boxed, Block, Table}
use Rattle.sheet.proofs.Forbidden.{axis, shapes-by, shapes-parts}
use Rattle.points.specs.declared.Area.{Area}
use Rattle.points.specs.Area.{coordinates, Cuts, field_area}
use Rattle.points.proofs.Sums.{near-back}
use Rattle.points.proofs.Fills.{Fills, fills-none, fills-skip, fills-set}
use Rattle.words.specs.declared.Place.{Place}
use Rattle.words.specs.Places.{RulePlace, RowPlace}
use Rattle.outline.specs.Places.{solids, hull_of}
use Rattle.outline.specs.Chain.{Sole}
use Rattle.outline.specs.Solids.{Boxes, LiesIn, Modest}
use Rattle.outline.specs.Outline.{Outline}
use Rattle.outline.proofs.Solids.{box-modest, hull-near}
use Rattle.forbid.specs.declared.pair.Pair.{Pair}
use Rattle.forbid.specs.declared.interval.Interval.{Interval}
use Rattle.forbid.specs.Pair.{PairPlaces, IsInterval, side_forbids, solids_forbid}
use Rattle.forbid.proofs.Intervals.{interval-wider, first-of-boxes, last-of-boxes}

-- the pair forbids p in dimension d, if the rule names d
abbrev pub in_side : List ℤ → List ℤ → List ℤ → Pair → ℕ → List ℤ → Bool
in_side block t o x d p = side_forbids block t o x d (word p d)

module _ (block t o : List ℤ) (r j : Place) where
  -- what solid y of row j forbids to solid x by rule r
  abbrev pub forbids_to : ℕ → ℕ → List ℤ → Bool
  forbids_to x y = solids_forbid block t o (record { r = r; own = x; j = j; other = y })

  pub solids-wider : {own own' other other' : ℕ} (p : List ℤ) → LiesIn block o own own' → LiesIn block o other other'
      → forbids_to own other p ≡ true → forbids_to own' other' p ≡ true
  unfolding solids_forbid side_forbids
  solids-wider p x y e = at_all (λ d h. true_implies (λ n.
      interval-wider _ _ _ _ _ _ _ _ (x.starts d h) (x.ends d h) (y.starts d h) (y.ends d h) (implies_true (all-at _ e d h) n)))

  pub solids-boxes : Boxes block o → (i : ℕ) {b c : ℕ} → b < boxes block → c < boxes block → (p : List ℤ)
      → forbids_to b c p ≡ pair_forbids block t r.number p i b j.number c
  unfolding solids_forbid side_forbids pair_forbids
  solids-boxes x i {b} {c} k l p = all_same (λ d h. ap (λ (y : Bool). names_dim block r.number d ⇒ y)
      (ap₂ (λ (y z : ℤ). within y z (word p d))
      (first-of-boxes block t r.number i j.number (x b k) (x c l) h) (last-of-boxes block t r.number i j.number (x b k) (x c l) h)))

  module _ (x : Outline block o) (i : ℕ) {s s' : ℕ} (own : Boxed block s) (other : Boxed block s') (p : List ℤ) where
    pub hulls-forbid : shapes_forbid block t r.number p i s j.number s' ≡ true → forbids_to (hull_of s) (hull_of s') p ≡ true
    hulls-forbid e =
        let f = shapes-parts block t r.number i s j.number s' p e in
        solids-wider p ((x.hulls s own).holds _ f.own_below f.own_is) ((x.hulls s' other).holds _ f.other_below f.other_is)
        (solids-boxes x.boxes_of i f.own_below f.other_below p ∙ f.pair)

    pub hulls-fill : Sole block s → Sole block s' → forbids_to (hull_of s) (hull_of s') p ≡ true
        → shapes_forbid block t r.number p i s j.number s' ≡ true
    hulls-fill u v e =
        let b = u.sole in
        let c = v.sole in
        shapes-by block t r.number i s j.number s' p (record {
          own = u.box;
          other = v.box;
          own_below = b.below;
          other_below = c.below;
          own_is = b.is;
          other_is = c.is;
          pair =
              sym (solids-boxes x.boxes_of i b.below c.below p)
              ∙ solids-wider p ((x.hulls s own).sole _ b) ((x.hulls s' other).sole _ c) e;
        })

-- ---- the points that a pair forbids, dimension by dimension
module _ (block t o : List ℤ) (x : Pair) where
  -- the area holds those of the field that the pair forbids in each dimension below n
  pub record Sides (n : ℕ) (a : Area) : Type 0 where
    pub long_low : length a.low ≡ coordinates
    pub long_high : length a.high ≡ coordinates
    pub fills : Fills (axes block) n a (in_side block t o x)

  -- a number as the code holds it
  abbrev held : ℤ → ℤ
  held z = to_z w64 (of_z w64 z)

  pub sides-none : Sides 0 field_area
  unfolding field_area
  sides-none = record { long_low = refl; long_high = refl; fills = fills-none _ }

  -- a point that the pair forbids lies in each of its intervals
  pub sides-at : {d : ℕ} {y : Interval} (p : List ℤ) → d < dims block → names_dim block x.r.number d ≡ true → IsInterval block t o x d y
      → solids_forbid block t o x p ≡ true → within (held y.from) (held y.to) (word p d) ≡ true
  unfolding solids_forbid side_forbids
  sides-at {d} p h e y f =
      ap₂ (λ (b c : ℤ). within b c (word p d)) (near-back y.from_within ∙ y.from) (near-back y.to_within ∙ y.to)
      ∙ sym (implies-in _ e) ∙ all-at (λ m. in_side block t o x m p) f d h

  module _ {d : ℕ} {a : Area} (s : Sides d a) where
    -- a dimension that the rule does not name, and one that it does
    pub sides-skip : names_dim block x.r.number d ≡ false → Sides (d + 1) a
    unfolding side_forbids
    sides-skip e = record { long_low = s.long_low; long_high = s.long_high; fills = fills-skip _ s.fills (λ p. implies-out _ e) }

    pub sides-set : {y : Interval} → Block block → d < dims block → names_dim block x.r.number d ≡ true → IsInterval block t o x d y
        → Sides (d + 1) (record { low = set a.low d (held y.from); high = set a.high d (held y.to) })
    unfolding side_forbids
    sides-set w h e y =
        let from = near-back y.from_within in
        let to = near-back y.to_within in
        record {
          long_low = simp length-set s.long_low;
          long_high = simp length-set s.long_high;
          fills =
              fills-set _ s.fills (within_by from y.from_within) (within_by to y.to_within) (omega (arith, h, w.head.few_dims)) (axis block h)
              s.long_low s.long_high
              (λ p. ap₂ (λ (b c : ℤ). within b c (word p d)) (from ∙ y.from) (to ∙ y.to) ∙ sym (implies-in _ e));
        }

  pub sides-all : {n : ℕ} {a : Area} → n ≡ dims block → Sides n a → Cuts (axes block) field_area a (solids_forbid block t o x)
  unfolding solids_forbid
  sides-all e s = rw e at s.fills.cuts

-- ---- the places of pairs
module _ {block t o : List ℤ} {r j : Place} (w : Block block) (u : Table block t) (x : Outline block o) (rule : RulePlace block r)
    (row : RowPlace block t j) where
  -- a solid of the outline
  record Solid (y : ℕ) : Type 0 where
    pub few : y < solids
    pub modest : Modest block o y

  box-solid : {b : ℕ} → b < boxes block → Solid b
  box-solid h = record { few = omega (arith, h, w.head.few_boxes); modest = box-modest w x.boxes_of _ h }

  -- h is the hull of s as the code holds it
  hull-solid : {s h : ℕ} → h ≡ hull_of s → Boxed block s → Solid h
  hull-solid {s} e y = rw e (record { few = hull-near w y; modest = (x.hulls s y).modest })

  solid-places : {y z : ℕ} → Solid y → Solid z → PairPlaces block t o (record { r = r; own = y; j = j; other = z })
  solid-places a b = record {
    accepted = w;
    table = u;
    rule = rule;
    other_row = row;
    own_few = a.few;
    own = a.modest;
    other_few = b.few;
    other = b.modest;
  }

  pub hull-places : {s s' h h' : ℕ} → h ≡ hull_of s → Boxed block s → h' ≡ hull_of s' → Boxed block s'
      → PairPlaces block t o (record { r = r; own = h; j = j; other = h' })
  hull-places e y e' y' = solid-places (hull-solid e y) (hull-solid e' y')

  pub hull-box-places : {s h c : ℕ} → h ≡ hull_of s → Boxed block s → c < boxes block
      → PairPlaces block t o (record { r = r; own = h; j = j; other = c })
  hull-box-places e y k = solid-places (hull-solid e y) (box-solid k)

  pub box-places : {b c : ℕ} → b < boxes block → c < boxes block → PairPlaces block t o (record { r = r; own = b; j = j; other = c })
  box-places h k = solid-places (box-solid h) (box-solid k)
