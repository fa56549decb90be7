-- The tests by which the cut box is cut are those of document 01: the boxes of a shape lie in a room exactly when its hull does, and a row's
-- ranges cut by its rooms are the cut box. Assumes nothing.
use mathlib.Core.Path.{◌≡◌, sym, ap, ◌∙◌}
use mathlib.Core.Bool.{Bool, true, ◌&&◌}
use mathlib.Core.List.{List}
use Prim.Native.Nat.{ℕ, ◌<◌}
use lib.IntN.{ℤ, ◌+ℤ◌, ◌-ℤ◌}
use lib.Signed.{le_z, ◌≤ℤ◌}
use Rattle.integers.specs.Integer.{within}
use Rattle.integers.specs.Below.{◌⇒◌, all_below}
use Rattle.integers.specs.Words.{word}
use Rattle.integers.proofs.Booleans.{both_ways, and-true, true-and, and_right, implies_true, true_implies}
use Rattle.integers.proofs.Below.{all-at, at_all}
use Rattle.integers.proofs.Ints.{ints, lin, v, ◌⊕◌, ◌⊖◌, within-true, true-within}
use Rattle.integers.proofs.Machine.{within-between, within-weaken}
use Rattle.sheet.specs.Layout.{dims, boxes, axes, is_of, offset, size, names_dim, room_low, room_high}
use Rattle.sheet.specs.Allowed.{box_contained, in_ranges, rooms_hold}
use Rattle.sheet.specs.Accepted.{Head, Table}
use Rattle.sheet.proofs.Forbidden.{in-range}
use Rattle.words.specs.declared.Place.{Place}
use Rattle.words.specs.Places.{RowPlace}
use Rattle.points.specs.declared.Area.{Area}
use Rattle.points.specs.Area.{in_area, InField, Cuts, field_area}
use Rattle.points.proofs.Areas.{in_field, small-field}
use Rattle.outline.specs.Places.{hull_of, start_of, end_of}
use Rattle.outline.specs.Solids.{Boxes, Hull}
use Rattle.region.specs.Rooms.{side_contained, shape_contained, CutBox}

-- ---- a box at p + t of size l, and a hull from p + u to p + w, in a room from low to high
module _ (low high t l u w p : ℤ) where
  abbrev box_in : Bool
  box_in = le_z low (p +ℤ t) && le_z (p +ℤ t +ℤ l) high

  abbrev hull_in : Bool
  hull_in = within (low -ℤ u) (high -ℤ w) p

  -- a box of the hull lies in the room with it
  box-in : u ≤ℤ t → (t +ℤ l) ≤ℤ w → hull_in ≡ true → box_in ≡ true
  box-in h k e =
      let x = within-true e in
      true-and {a = le_z low (p +ℤ t)} {b = le_z (p +ℤ t +ℤ l) high}
      (omega (ints, lin (v low ⊖ v u), lin (v p ⊕ v t)))
      (omega (ints, lin (v high ⊖ v w), lin (v t ⊕ v l), lin (v p ⊕ v t ⊕ v l)))

  -- a room holds a hull's start with the box that starts there, and its end with the box that ends there
  start-in : u ≡ t → box_in ≡ true → (low -ℤ u) ≤ℤ p
  start-in h e =
      let x : (le_z low (p +ℤ t) ≡ true) × (le_z (p +ℤ t +ℤ l) high ≡ true) = and-true e in
      omega (ints, lin (v low ⊖ v u), lin (v p ⊕ v t))

  end-in : w ≡ t +ℤ l → box_in ≡ true → p ≤ℤ (high -ℤ w)
  end-in h e =
      let x : (le_z low (p +ℤ t) ≡ true) × (le_z (p +ℤ t +ℤ l) high ≡ true) = and-true e in
      omega (ints, lin (v high ⊖ v w), lin (v t ⊕ v l), lin (v p ⊕ v t ⊕ v l))

module _ (block : List ℤ) where
  -- ---- a shape in rule r's room, by its hull
  module _ {o : List ℤ} {s : ℕ} (all : Boxes block o) (hull : Hull block o s) (r : ℕ) (p : List ℤ) where
    abbrev start : ℕ → ℤ
    start d = start_of o (hull_of s) d

    abbrev end : ℕ → ℤ
    end d = end_of o (hull_of s) d

    abbrev Hulls : Type 0
    Hulls = all_below (dims block) (λ d. names_dim block r d ⇒ side_contained block o r s d p) ≡ true

    -- box b in dimension d
    abbrev side : ℕ → ℕ → Bool
    side b d = box_in (room_low block r d) (room_high block r d) (offset block b d) (size block b d) (start d) (end d) (word p d)

    boxes-in : Hulls → shape_contained block r s p ≡ true
    unfolding box_contained side_contained shape_contained
    boxes-in h = at_all (λ b l. true_implies (λ is. at_all (λ d k. true_implies (λ e.
        let i = hull.holds b l is in
        box-in (room_low block r d) (room_high block r d) (offset block b d) (size block b d) (start d) (end d) (word p d)
        (rw (← (all b l).starts d k) (i.starts d k)) (rw (← (all b l).ends d k) (i.ends d k))
        (implies_true (all-at _ h d k) e)))))

    box-at : shape_contained block r s p ≡ true → (b d : ℕ) → b < boxes block → is_of block b s ≡ true → d < dims block
        → names_dim block r d ≡ true → side b d ≡ true
    unfolding box_contained shape_contained
    box-at h b d l is k e = implies_true (all-at (λ d. names_dim block r d ⇒ side b d) (implies_true (all-at _ h b l) is) d k) e

    hull-in : shape_contained block r s p ≡ true → Hulls
    unfolding side_contained
    hull-in h = at_all (λ d k. true_implies (λ e.
        let f = hull.starts_at d k in
        let g = hull.ends_at d k in
        true-within
        (start-in (room_low block r d) (room_high block r d) (offset block f.box d) (size block f.box d) (start d) (end d) (word p d)
        f.at (box-at h f.box d f.below f.is k e))
        (end-in (room_low block r d) (room_high block r d) (offset block g.box d) (size block g.box d) (start d) (end d) (word p d)
        g.at (box-at h g.box d g.below g.is k e))))

    pub hull-sides : all_below (dims block) (λ d. names_dim block r d ⇒ side_contained block o r s d p) ≡ shape_contained block r s p
    hull-sides = both_ways _ _ boxes-in hull-in

  -- ---- the cut box
  module _ (h : Head block) {t : List ℤ} (g : Table block t) {i : Place} (w : RowPlace block t i) where
    -- a point of the row's ranges is in the field
    pub ranges-field : {p : List ℤ} → in_ranges block t i.number p ≡ true → InField (axes block) p
    ranges-field {p} e = record {
      near = λ d l.
          let r = in-range block t i.number d p e l in
          within-weaken (omega ints)
          (within-between (g.lows i.number d w.from w.upto l) (g.highs i.number d w.from w.upto l) r.0 r.1);
    }

    pub cut-is : {s : ℕ} {a c : Area} → Cuts (axes block) field_area a (in_ranges block t i.number)
        → Cuts (axes block) a c (rooms_hold block i.number s) → CutBox block t i.number s c
    cut-is {s} f g = record {
      is = λ p. g.is p ∙ ap (λ (x : Bool). x && rooms_hold block i.number s p)
          (f.is p ∙ sym (and_right (in_area (axes block) field_area p) _ (λ e. in_field h.few_axes (ranges-field e))));
      small = g.small (f.small small-field);
    }
