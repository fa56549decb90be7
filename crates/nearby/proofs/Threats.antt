-- What another row forbids lies in the area that the hulls of its lowest shape and of the own shape forbid, and is all of it where it has no
-- other shape and both have one box; so it forbids no point of a row's ranges where the hulls forbid none. Assumes nothing.
use mathlib.Core.Path.{◌≡◌, refl, sym, ◌∙◌}
use mathlib.Core.Bool.{Bool, true}
use mathlib.Core.List.{List}
use Prim.Native.Nat.{ℕ, ◌≤◌}
use lib.IntN.{ℤ}
use Rattle.integers.proofs.Booleans.{and-true, true-and, fails}
use Rattle.integers.proofs.Ints.{ints}
use Rattle.integers.proofs.Machine.{within-between, within-weaken}
use Rattle.sheet.specs.Layout.{axes, rows, names_row}
use Rattle.sheet.specs.Allowed.{in_ranges, set_forbids, row_forbids, forbidden}
use Rattle.sheet.specs.Accepted.{Boxed, Head, Table}
use Rattle.sheet.proofs.Forbidden.{in-range, set_at, forbidden-by}
use Rattle.words.specs.declared.Place.{Place}
use Rattle.words.specs.Places.{RowPlace}
use Rattle.words.specs.Shapes.{LowestShape}
use Rattle.points.specs.declared.Area.{Area}
use Rattle.points.specs.Area.{in_area, Cuts, field_area}
use Rattle.points.proofs.Areas.{in_field, small-field}
use Rattle.outline.specs.Places.{hull_of}
use Rattle.outline.specs.Outline.{Outline, Subject}
use Rattle.forbid.specs.Pair.{PairPlaces}
use Rattle.forbid.proofs.Rows.{named_set, set_single}
use Rattle.forbid.proofs.Solids.{forbids_to, hulls-forbid, hulls-fill, hull-places}
use Rattle.nearby.specs.Adding.{FillsHulls, Binds, Threat}
use Rattle.nearby.specs.Due.{ShapeHarmless}

-- ---- a row of the table
module _ {block t : List ℤ} {i : ℕ} (table : Table block t) (from : 1 ≤ i) (upto : i ≤ rows block t) where
  -- a point of its ranges is in the field
  pub ranges-field : Head block → (p : List ℤ) → in_ranges block t i p ≡ true → in_area (axes block) field_area p ≡ true
  ranges-field head p e = in_field head.few_axes (record {
    near = λ d l.
        let r = in-range block t i d p e l in
        within-weaken (omega ints) (within-between (table.lows i d from upto l) (table.highs i d from upto l) r.0 r.1);
  })

-- ---- the hulls of shape u of row j and of shape s forbid row i no point of its ranges
abbrev pub HullsClear : List ℤ → List ℤ → List ℤ → Place → Place → ℕ → ℕ → ℕ → Type 0
HullsClear block t o r j u i s =
    (p : List ℤ) → in_ranges block t i p ≡ true → forbids_to block t o r j (hull_of s) (hull_of u) p ≡ true → ⊥

pub hulls-harmless : {block t o : List ℤ} → Table block t → Outline block o → (r j : Place) {u i : ℕ} (s : ℕ) → Boxed block u
    → 1 ≤ i → i ≤ rows block t → HullsClear block t o r j u i s → ShapeHarmless block t r.number j.number u i s
hulls-harmless {block} {t} {o} table outline r j {u} {i} s other from upto f p h inside =
    fails (λ e. f p inside (hulls-forbid block t o r j outline i (table.boxed i s from upto h) other p e))

-- ---- row j, which rule r keeps apart from row i with shape s, has the lowest shape u
pub record Rival (block t o : List ℤ) (i : Place) (s : ℕ) (r j : Place) (u : ℕ) : Type 0 where
  pub subject : Subject block t o i s
  pub binds : Binds block i.number r
  pub row : RowPlace block t j
  pub another : i.number ≡ j.number → ⊥
  pub names : names_row block r.number j.number ≡ true
  pub lowest : LowestShape block t j.number u

module _ {block t o : List ℤ} {i : Place} {s : ℕ} {r j : Place} {u : ℕ} (x : Rival block t o i s r j u) where
  pub rival-boxed : Boxed block u
  rival-boxed = x.subject.table.boxed j.number u x.row.from x.row.upto x.lowest.held

  by-hulls : (p : List ℤ) → set_forbids block t r.number p i.number s j.number ≡ true
      → forbids_to block t o r j (hull_of s) (hull_of u) p ≡ true
  by-hulls p e = hulls-forbid block t o r j x.subject.outline i.number x.subject.shape rival-boxed p
      (set_at block t r.number i.number s j.number p e u x.lowest.upto x.lowest.held)

  sound : (q : List ℤ) → set_forbids block t r.number q i.number s j.number ≡ true → forbidden block t i.number s q ≡ true
  sound q e = forbidden-by block t i.number s q (record {
    rule = r.number;
    other = j.number;
    rule_below = x.binds.rule.below;
    from = x.row.from;
    upto = x.row.upto;
    kind = x.binds.kind;
    names = x.binds.names;
    another = x.another;
    names_other = x.names;
    set = e;
  })

  pub rival-places : PairPlaces block t o (record { r = r; own = hull_of s; j = j; other = hull_of u })
  rival-places =
      let w = x.subject in
      hull-places w.accepted w.table w.outline x.binds.rule x.row refl w.shape refl rival-boxed

  pub rival-set : (p : List ℤ) → row_forbids block t r.number p i.number s j.number ≡ true
      → set_forbids block t r.number p i.number s j.number ≡ true
  rival-set p e = named_set block t r.number i.number s j.number x.another x.names p ∙ e

  pub rival-clear : HullsClear block t o r j u i.number s → (p : List ℤ) → in_ranges block t i.number p ≡ true
      → row_forbids block t r.number p i.number s j.number ≡ true → ⊥
  rival-clear f p inside e = f p inside (by-hulls p (rival-set p e))

  pub rival-threat : {area : Area} {filled : Bool} → Cuts (axes block) field_area area (forbids_to block t o r j (hull_of s) (hull_of u))
      → (filled ≡ true → FillsHulls block t s j.number u) → Threat block t i.number s r.number j.number area filled
  rival-threat cut whole =
      let w = x.subject in
      record {
        rule = x.binds.rule.below;
        from = x.row.from;
        upto = x.row.upto;
        sound = sound;
        holds = λ p inside e. cut.is p
            ∙ true-and (ranges-field w.table w.row.from w.row.upto w.accepted.head p inside) (by-hulls p e);
        fills = λ f q e. sound q
            (sym (set_single block t r.number i.number s j.number u x.lowest.upto x.lowest.held (whole f).one q)
            ∙ hulls-fill block t o r j w.outline i.number w.shape rival-boxed q (whole f).own (whole f).other
            (and-true {a = in_area (axes block) field_area q} (sym (cut.is q) ∙ e)).1);
        small = cut.small small-field;
      }
