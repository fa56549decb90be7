-- One shape more of a row, with its cut box. It has no point where the box has none (`box-empty`) or all of the box is forbidden
-- (`box-forbidden`); where nothing of it is, the box's corners have every end (`box-open`). What the other ends lean on once a point is
-- taken in is `to-widen`. Assumes nothing.
use mathlib.Core.Path.{◌≡◌, sym, ◌∙◌, subst}
use mathlib.Core.Logic.{inl}
use mathlib.Core.Bool.{Bool, true, false}
use mathlib.Core.List.{List}
use Prim.Native.Nat.{ℕ, suc, ◌+◌, ◌-◌}
use native.Mathlib.Omega.{arith}
use lib.IntN.{ℤ}
use lib.ListN.{length}
use Rattle.integers.proofs.Booleans.{and-true}
use Rattle.sheet.specs.Layout.{axes, has_shape}
use Rattle.sheet.specs.Allowed.{in_ranges, forbidden, allowed}
use Rattle.sheet.specs.Narrow.{Stands, keeps_shape}
use Rattle.words.specs.declared.Place.{Place}
use Rattle.points.specs.declared.Area.{Area}
use Rattle.points.specs.Area.{coordinates, area_words, in_area}
use Rattle.points.specs.Ends.{Taken}
use Rattle.region.specs.Rooms.{CutBox}
use Rattle.outline.specs.Outline.{Subject}
use Rattle.nearby.specs.declared.Nearby.{Nearby}
use Rattle.nearby.specs.Listing.{Listed}
use Rattle.bounds.specs.Search.{free_in}
use Rattle.bounds.proofs.Cutting.{cut-free}
use Rattle.narrow.specs.Ends.{Edges, Ends, Widening}
use Rattle.narrow.specs.Shapes.{Keeping}
use Rattle.narrow.proofs.Taking.{taken-edges}
use Rattle.narrow.proofs.Widens.{high-in, allowed-there, none_allowed}
use Rattle.narrow.proofs.Corners.{corners-reach}
use Rattle.narrow.proofs.KeptTo.{kept-shape, kept-not, ends-skip}

module _ {block t o : List ℤ} {i : Place} {s : ℕ} {ends : List ℤ} (g : Keeping block t o i s ends)
    (held : has_shape block t i.number (suc s) ≡ true) {cut : Area} (box : CutBox block t i.number (suc s) cut) where
  abbrev Allowed : List ℤ → Type 0
  Allowed p = allowed block t i.number (suc s) p ≡ true

  -- whether the shape is kept, and the ends with it
  abbrev Shown : Bool → List ℤ → Type 0
  Shown kept new = (kept ≡ keeps_shape block t i.number (suc s)) × Ends block t i.number (suc s) new

  skipped : ((p : List ℤ) → Allowed p → ⊥) → Shown false ends
  skipped none_of = (
    sym (kept-not block t i.number s (λ p h a. none_of p a)),
    ends-skip block t i.number s (λ p h a. none_of p a) g.ends_of,
  )

  pub box-empty : in_area (axes block) cut cut.low ≡ false → Shown false ends
  box-empty e = skipped (none_allowed block t i.number (suc s) cut box e)

  -- the free points of the cut box are the allowed ones
  free-is : (p : List ℤ) → free_in block t i.number (suc s) cut p ≡ allowed block t i.number (suc s) p
  free-is = cut-free block t i.number (suc s) cut box

  pub box-forbidden : ((p : List ℤ) → free_in block t i.number (suc s) cut p ≡ true → ⊥) → Shown false ends
  box-forbidden none_free = skipped (λ p a. none_free p (free-is p ∙ a))

  -- the shape has a point
  pub is_kept : (p : List ℤ) → free_in block t i.number (suc s) cut p ≡ true → true ≡ keeps_shape block t i.number (suc s)
  is_kept p e = sym (kept-shape block t i.number (suc s) p held (sym (free-is p) ∙ e))

  module _ (filled : in_area (axes block) cut cut.low ≡ true) where
    module _ (clear : (p : List ℤ) → in_ranges block t i.number p ≡ true → forbidden block t i.number (suc s) p ≡ false) where
      free-there : (p : List ℤ) → in_area (axes block) cut p ≡ true → Allowed p
      free-there p h =
          allowed-there block t i.number (suc s) cut box p h (clear p (and-true {a = in_ranges block t i.number p} (sym (box.is p) ∙ h)).0)

      pub box-open : {mid new : List ℤ} → Taken coordinates ends cut.low mid → Taken coordinates mid cut.high new → Shown true new
      box-open first second =
          let on = g.on in
          let low = free-there cut.low filled in
          let high = free-there cut.high (high-in (axes block) cut filled) in (
            sym (kept-shape block t i.number (suc s) cut.low held low),
            λ flip d k. inl (corners-reach block t on.table i.number on.row.from on.row.upto on.accepted.head.few_axes
                s held cut box low high first second g.ends_of flip d k),
          )

    -- the list x is that of the row and the shape
    module _ {list known : List ℤ} {x : Nearby} (listed : Listed block t x list known) (row_is : x.i ≡ i) (shape_is : x.s ≡ s + 1) where
      at-list : (P : Place → ℕ → Type 0) → P i (suc s) → P x.i x.s
      at-list P w =
          let q : x.s ≡ suc s = omega arith in
          subst (λ (j : Place). P j x.s) (sym row_is) (subst (P i) (sym q) w)

      pub to-widen : (p : List ℤ) → free_in block t i.number (suc s) cut p ≡ true
          → {new : List ℤ} → Taken coordinates ends p new → length new ≡ area_words
          → Widening block t o list known x cut (x.s - 1) new × Edges block t x.i.number (x.s - 1) new
      to-widen p e {new} taken long =
          let on = g.on in
          let boxed = on.table.boxed i.number (suc s) on.row.from on.row.upto held in
          let subject : Subject block t o i (suc s) =
          record { accepted = on.accepted; table = on.table; outline = on.outline; row = on.row; shape = boxed } in
          let stands : Stands block t i.number p = record { shape = suc s; held = held; stands = sym (free-is p) ∙ e } in
          let q : suc s - 1 ≡ s = omega arith in (
            record {
              subject = at-list (λ j u. Subject block t o j u) subject;
              listed = listed;
              next = omega arith;
              held = at-list (λ j u. has_shape block t j.number u ≡ true) held;
              box = at-list (λ j u. CutBox block t j.number u cut) box;
              filled = filled;
              long = long;
            },
            at-list (λ j u. Edges block t j.number (u - 1) new)
                (rw q (taken-edges block t on.table i.number on.row.from on.row.upto on.accepted.head.few_axes taken stands s g.ends_of)),
          )
