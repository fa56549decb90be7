-- How two rows of an accepted sheet stand to each other: the document's origin and end of a row are the lowest start and the highest end
-- of its boxes (`extent`), which in a placement are those of the placed shape (`placed-extent`); exactly one of the thirteen relations holds
-- (`one-relation`), and exchanging the rows gives the converse (`rows-exchanged`). Assumes nothing.
use mathlib.Core.Path.{◌≡◌, sym, ◌∙◌}
use mathlib.Core.Logic.{◌↔◌}
use mathlib.Core.Bool.{Bool, true}
use mathlib.Core.List.{List}
use Prim.Native.Nat.{ℕ, ◌<◌}
use lib.IntN.{ℤ, pos, ◌+ℤ◌}
use lib.Signed.{◌≤ℤ◌, ◌<ℤ◌, le_z}
use Rattle.integers.specs.Below.{UpTo}
use Rattle.integers.proofs.Booleans.{both_ways}
use Rattle.integers.proofs.Foremost.{Order, foremost-found}
use Rattle.integers.proofs.Ints.{ints, eq_z-eq, lin, disjoint, v, ◌⊕◌}
use Rattle.integers.proofs.Sets.{member-ge-1, living-set, only-held, same-only}
use Rattle.sheet.specs.declared.Allen.{Allen}
use Rattle.sheet.specs.Layout.{dims, boxes, shape_of, offset, size, is_of, rows, shape_set, low, has_shape, has_only, of_row}
use Rattle.sheet.specs.Placement.{box_start, box_end}
use Rattle.sheet.specs.Accepted.{Block, Table}
use Rattle.sheet.specs.Relation.{bears, converse, lowest_start, highest_end, relation_of}
use Rattle.sheet.proofs.Intervals.{exactly-one, exchanged}

-- ---- the two directions
pub upward : Order le_z
upward = record { total = λ x y e. omega ints; through = λ e g. omega ints }

pub downward : Order (λ x y. le_z y x)
downward = record { total = λ x y e. omega ints; through = λ e g. omega ints }

module _ (block : List ℤ) (t : List ℤ) where
  -- ---- the boxes of a row
  -- of a row with one shape they are that shape's
  pub of-only : (i s b : ℕ) → has_only block t i s ≡ true → of_row block t i b ≡ is_of block b s
  unfolding of_row is_of has_shape has_only
  of-only i s b e =
      both_ways _ _
      (λ g. let q = same-only (shape_set block t i) e g in let l = member-ge-1 (shape_set block t i) g in omega (ints, disjoint (shape_of block b)))
      (λ g. rw (eq_z-eq g) (only-held (shape_set block t i) s e))

  -- of some boxes, with row i at its place, none starts before o or ends past e in dimension d, one starts at o, and one ends at e
  pub record Extends (own : ℕ → Bool) (i d : ℕ) (o e : ℤ) : Type 0 where
    pub starts : (b : ℕ) → b < boxes block → own b ≡ true → o ≤ℤ box_start block t i b d
    pub ends : (b : ℕ) → b < boxes block → own b ≡ true → box_end block t i b d ≤ℤ e
    pub starts_at : (b : ℕ) × (b < boxes block) × (own b ≡ true) × (box_start block t i b d ≡ o)
    pub ends_at : (b : ℕ) × (b < boxes block) × (own b ≡ true) × (box_end block t i b d ≡ e)

  box-long : (i d b : ℕ) → pos 1 ≤ℤ size block b d → box_start block t i b d <ℤ box_end block t i b d
  unfolding box_start box_end
  box-long i d b h = omega (ints, lin (v (low block t i d +ℤ offset block b d) ⊕ v (size block b d)))

  module _ (table : Table block t) where
    pub some-box : {i : ℕ} → UpTo (rows block t) i → (b : ℕ) × (b < boxes block) × (of_row block t i b ≡ true)
    unfolding of_row has_shape is_of
    some-box {i} u =
        let w = living-set (table.sets_from i u.from u.upto) in
        let x = table.boxed i w.0 u.from u.upto w.1 in
        (x.box, x.below, rw (eq_z-eq x.is) w.1)

    -- THE EXTENT of a row: from the lowest start to the highest end of its boxes
    pub extent : {i : ℕ} → UpTo (rows block t) i → (d : ℕ) → Extends (of_row block t i) i d (lowest_start block t i d) (highest_end block t i d)
    unfolding lowest_start highest_end
    extent {i} u d =
        let w = some-box u in
        let x = foremost-found le_z (of_row block t i) (λ b. box_start block t i b d) upward w.0 w.1 w.2 (pos 0) in
        let y = foremost-found (λ x y. le_z y x) (of_row block t i) (λ b. box_end block t i b d) downward w.0 w.1 w.2 (pos 0) in
        record {
          starts = λ b h g. let q = x.first b h g in omega ints;
          ends = λ b h g. let q = y.first b h g in omega ints;
          starts_at = (x.at, x.below, x.passes, x.is);
          ends_at = (y.at, y.below, y.passes, y.is);
        }

    -- THE EXTENT OF A PLACED SHAPE: where the row's set has one shape, of that shape's boxes
    pub placed-extent : {i : ℕ} (s : ℕ) → UpTo (rows block t) i → has_only block t i s ≡ true → (d : ℕ)
        → Extends (λ b. is_of block b s) i d (lowest_start block t i d) (highest_end block t i d)
    placed-extent {i} s u only d =
        let x = extent u d in
        let own : (b : ℕ) → of_row block t i b ≡ is_of block b s = λ b. of-only i s b only in
        record {
          starts = λ b h g. x.starts b h (own b ∙ g);
          ends = λ b h g. x.ends b h (own b ∙ g);
          starts_at = (x.starts_at.0, x.starts_at.1, sym (own _) ∙ x.starts_at.2, x.starts_at.3);
          ends_at = (x.ends_at.0, x.ends_at.1, sym (own _) ∙ x.ends_at.2, x.ends_at.3);
        }

  module _ (accepted : Block block) (table : Table block t) where
    -- no extent is empty, since no box is
    pub extent-long : {i d : ℕ} → UpTo (rows block t) i → d < dims block → lowest_start block t i d <ℤ highest_end block t i d
    extent-long {i} {d} u h =
        let x = extent table u d in
        let w = some-box table u in
        omega (ints, x.starts w.0 w.1 w.2, x.ends w.0 w.1 w.2, box-long i d w.0 (accepted.sizes_from w.0 d w.1 h))

    -- ---- two rows
    module _ {i j d : ℕ} (u : UpTo (rows block t) i) (w : UpTo (rows block t) j) (h : d < dims block) where
      -- EXACTLY ONE of document 004's relations holds of two rows, and it is the one found
      pub one-relation : (x : Allen)
          → (bears x (lowest_start block t i d) (highest_end block t i d) (lowest_start block t j d) (highest_end block t j d) ≡ true)
          ↔ (x ≡ relation_of block t i j d)
      unfolding relation_of
      one-relation x = exactly-one _ _ _ _ (extent-long u h) (extent-long w h) x

      -- EXCHANGING the rows gives the converse
      pub rows-exchanged : relation_of block t j i d ≡ converse (relation_of block t i j d)
      unfolding relation_of
      rows-exchanged = exchanged _ _ _ _ (extent-long u h) (extent-long w h)
