-- The search of what lies ahead of an end. No point of the next shape is ahead of the end where the cut box has nothing there
-- (`behind-all`), where nothing is found (`behind-none`), and once what is found is taken in (`behind-first`). Assumes nothing.
use mathlib.Core.Path.{◌≡◌, sym, ap, ◌∙◌}
use mathlib.Core.Logic.{⊎_elim}
use mathlib.Core.Bool.{Bool, true, false, not}
use mathlib.Core.List.{List}
use Prim.Native.Nat.{ℕ, ◌<◌}
use lib.IntN.{ℤ, pos}
use lib.Signed.{≤ℤ_refl}
use Rattle.integers.specs.Integer.{within, Within}
use Rattle.integers.specs.Words.{word}
use Rattle.integers.proofs.Booleans.{clash, decide, fails, and-true, true-and}
use Rattle.integers.proofs.Ints.{ints, v, ◌⊕◌, ◌⊖◌, lin, true-within}
use Rattle.integers.proofs.Machine.{from-within}
use Rattle.sheet.specs.Layout.{axes}
use Rattle.sheet.specs.Allowed.{in_ranges, forbidden, allowed}
use Rattle.points.specs.declared.Area.{Area}
use Rattle.points.specs.Area.{in_area, Small, Cuts}
use Rattle.region.specs.Rooms.{CutBox}
use Rattle.points.proofs.Areas.{area-at, area-by, low-in, none_in, low-high}
use Rattle.bounds.specs.Search.{Ahead, free_in}
use Rattle.bounds.proofs.Cutting.{cut-free}
use Rattle.points.specs.Ends.{farther}
use Rattle.narrow.specs.Ends.{past-from, past_to, none-past}
use Rattle.narrow.proofs.Edges.{ahead-trans, not-past, farther-ahead}

-- where it has a point, an area holds its high point
pub high-in : (k : ℕ) (cut : Area) → in_area k cut cut.low ≡ true → in_area k cut cut.high ≡ true
high-in k cut holds = area-by k cut cut.high (λ m l. (low-high k cut holds m l, ≤ℤ_refl _))

-- the part of an area that lies strictly ahead of z holds a point, its outmost, if there is any
module _ (k : ℕ) (cut area : Area) (small : Small cut) (holds : in_area k cut cut.low ≡ true) (d : ℕ) (h : d < k) where
  pub some-past : (flip : Bool) (z : ℤ) → Cuts k cut area (λ p. within (past-from flip z) (past_to flip z) (word p d))
      → none-past flip cut d z ≡ false → in_area k area area.low ≡ true
  some-past true z cuts e =
      let n = from-within (small.highs d) in
      low-in k area cut.high (cuts.is cut.high ∙ true-and
      (high-in k cut holds)
      (true-within (omega (ints, lin (v z ⊕ v (pos 1)))) n.1))
  some-past false z cuts e =
      let n = from-within (small.lows d) in
      low-in k area cut.low (cuts.is cut.low ∙ true-and holds (true-within n.0 (omega (ints, lin (v z ⊖ v (pos 1))))))

module _ (block : List ℤ) (t : List ℤ) (i s : ℕ) (cut : Area) (box : CutBox block t i s cut) where
  abbrev Allowed : List ℤ → Type 0
  Allowed p = allowed block t i s p ≡ true

  -- an allowed point lies in the cut box
  allowed-in : (p : List ℤ) → Allowed p → in_area (axes block) cut p ≡ true
  unfolding free_in
  allowed-in p a = (and-true {a = in_area (axes block) cut p} (cut-free block t i s cut box p ∙ a)).0

  -- where no rule forbids it, a point of the cut box is allowed
  pub allowed-there : (p : List ℤ) → in_area (axes block) cut p ≡ true → forbidden block t i s p ≡ false → Allowed p
  unfolding free_in
  allowed-there p h f = sym (cut-free block t i s cut box p) ∙ true-and h (ap not f)

  pub none_allowed : in_area (axes block) cut cut.low ≡ false → (p : List ℤ) → Allowed p → ⊥
  none_allowed e p a = clash (allowed-in p a) (none_in (axes block) cut e p)

  pub behind-all : (flip : Bool) (z : ℤ) (d : ℕ) → d < axes block → none-past flip cut d z ≡ true → (p : List ℤ) → Allowed p → Ahead flip z (word p d)
  behind-all true z d h e p a = let w = area-at (axes block) cut p (allowed-in p a) d h in omega ints
  behind-all false z d h e p a = let w = area-at (axes block) cut p (allowed-in p a) d h in omega ints

  module _ (area : Area) {F : List ℤ → Bool} (cuts : Cuts (axes block) cut area F) where
    -- a cut of the cut box lies in the row's ranges
    pub part-inside : (p : List ℤ) → in_area (axes block) area p ≡ true → in_ranges block t i p ≡ true
    part-inside p h =
        (and-true {a = in_ranges block t i p} (sym (box.is p) ∙ (and-true {a = in_area (axes block) cut p} (sym (cuts.is p) ∙ h)).0)).0

    -- the free points of a cut of the cut box are the allowed points that pass
    pub free-allowed : (p : List ℤ) → free_in block t i s area p ≡ true → Allowed p
    unfolding free_in
    free-allowed p e =
        let u = and-true {a = in_area (axes block) area p} e in
        let w = and-true {a = in_area (axes block) cut p} (sym (cuts.is p) ∙ u.0) in
        sym (cut-free block t i s cut box p) ∙ true-and w.0 u.1

    allowed-free : (p : List ℤ) → Allowed p → F p ≡ true → free_in block t i s area p ≡ true
    unfolding free_in
    allowed-free p a f =
        let u = and-true {a = in_area (axes block) cut p} (cut-free block t i s cut box p ∙ a) in true-and (cuts.is p ∙ true-and u.0 f) u.1

  -- the part that lies strictly ahead of z is searched
  module _ (area : Area) (flip : Bool) (z : ℤ) (d : ℕ) (near : (p : List ℤ) → Allowed p → Within 1000000 (word p d))
      (cuts : Cuts (axes block) cut area (λ p. within (past-from flip z) (past_to flip z) (word p d))) where
    pub behind-none : ((p : List ℤ) → free_in block t i s area p ≡ true → ⊥) → (p : List ℤ) → Allowed p → Ahead flip z (word p d)
    behind-none none_of p a = not-past flip (word p d) z (near p a) (fails (λ f. none_of p (allowed-free area cuts p a f)))

    pub behind-first : (y : ℤ) → ((p : List ℤ) → free_in block t i s area p ≡ true → Ahead flip y (word p d))
        → (p : List ℤ) → Allowed p → Ahead flip (farther flip z y) (word p d)
    behind-first y first p a =
        let w = farther-ahead flip z y in
        ⊎_elim
        (λ f. ahead-trans flip (farther flip z y) y (word p d) w.1 (first p (allowed-free area cuts p a f)))
        (λ f. ahead-trans flip (farther flip z y) z (word p d) w.0 (not-past flip (word p d) z (near p a) f))
        (decide (within (past-from flip z) (past_to flip z) (word p d)))
