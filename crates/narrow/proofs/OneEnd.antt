-- One end of a row, taken on to the next shape. It is an edge of that shape too where the cut box has nothing ahead of it (`edge_stays`), where
-- the search ahead of it finds nothing (`edge-alone`), and once the point that is found is taken in (`edge-taken`), which keeps every other
-- edge (`others-kept`). What the search leans on is `ahead-searched`. Assumes nothing.
use mathlib.Core.Path.{◌≡◌, sym, subst}
use mathlib.Core.Bool.{Bool, true, false}
use mathlib.Core.List.{List}
use Prim.Native.Nat.{ℕ, ◌-◌, ◌<◌}
use native.Mathlib.Omega.{arith}
use lib.IntN.{ℤ}
use Rattle.integers.specs.Integer.{within, Within}
use Rattle.integers.specs.Words.{word}
use Rattle.integers.proofs.Machine.{within-weaken}
use Rattle.sheet.specs.Layout.{axes}
use Rattle.sheet.specs.Allowed.{allowed}
use Rattle.sheet.specs.Narrow.{Stands}
use Rattle.points.specs.declared.Area.{Area}
use Rattle.points.specs.Area.{coordinates, Cuts}
use Rattle.points.specs.Ends.{end_at, Taken}
use Rattle.nearby.specs.declared.Nearby.{Nearby}
use Rattle.bounds.specs.Search.{Ahead, free_in, Searching, Foremost}
use Rattle.narrow.specs.Ends.{beyond, past-from, past_to, none-past, Edge, Kept, Widening}
use Rattle.narrow.proofs.Edges.{edge_more}
use Rattle.narrow.proofs.Taking.{near-point, edge-near, taken-kept}
use Rattle.narrow.proofs.Widens.{some-past, part-inside, free-allowed, behind-all, behind-none, behind-first}

-- the end in dimension d, an edge of the shapes before the list's
pub record Begun (block t o list known : List ℤ) (x : Nearby) (cut : Area) (ends : List ℤ) (d : ℕ) (flip : Bool) : Type 0 where
  pub given : Widening block t o list known x cut (x.s - 1) ends
  pub below : d < axes block
  pub edge : Edge block t x.i.number flip (x.s - 1) d (end_at flip d ends)

pub begun : {block t o list known : List ℤ} {x : Nearby} {cut : Area} {ends : List ℤ} {d : ℕ} {flip : Bool}
    → Widening block t o list known x cut (x.s - 1) ends × (d < axes block) × Edge block t x.i.number flip (x.s - 1) d (end_at flip d ends)
    → Begun block t o list known x cut ends d flip
begun w = record { given = w.0; below = w.1; edge = w.2 }

module _ {block t o list known : List ℤ} {x : Nearby} {cut : Area} {ends : List ℤ} {d : ℕ} {flip : Bool}
    (b : Begun block t o list known x cut ends d flip) where
  abbrev row : ℕ
  row = x.i.number

  abbrev z : ℤ
  z = end_at flip d ends

  -- an edge of the list's shape too
  abbrev Taken-on : ℤ → Type 0
  Taken-on y = Edge block t row flip x.s d y

  pub few : d < coordinates
  few = omega (arith, b.below, b.given.subject.accepted.head.few_axes)

  pub end-near : Within beyond z
  end-near =
      let g = b.given.subject in
      within-weaken (omega arith) (edge-near block t g.table row g.row.from g.row.upto d b.below b.edge)

  close : (p : List ℤ) → allowed block t row x.s p ≡ true → Within 1000000 (word p d)
  close = let g = b.given.subject in near-point block t g.table row g.row.from g.row.upto x.s d b.below

  -- an edge that no point of the list's shape is ahead of
  with-shape : {y : ℤ} → Edge block t row flip (x.s - 1) d y
      → ((p : List ℤ) → allowed block t row x.s p ≡ true → Ahead flip y (word p d)) → Taken-on y
  with-shape {y} e behind = edge_more block t row flip (x.s - 1) d y b.given.next e behind

  pub edge_stays : none-past flip cut d z ≡ true → Taken-on z
  edge_stays e = with-shape b.edge (behind-all block t row x.s cut b.given.box flip z d b.below e)

  -- ---- the part of the cut box that lies ahead of the end
  module _ {area : Area} (cuts : Cuts (axes block) cut area (λ p. within (past-from flip z) (past_to flip z) (word p d))) where
    pub ahead-searched : none-past flip cut d z ≡ false → Searching block t o list known x d area
    ahead-searched e = record {
      subject = b.given.subject;
      listed = b.given.listed;
      below = b.below;
      small = cuts.small b.given.box.small;
      filled = some-past (axes block) cut area b.given.box.small b.given.filled d b.below flip z cuts e;
      inside = part-inside block t row x.s cut b.given.box area cuts;
    }

    pub edge-alone : ((p : List ℤ) → free_in block t row x.s area p ≡ true → ⊥) → Taken-on z
    edge-alone none_free = with-shape b.edge (behind-none block t row x.s cut b.given.box area flip z d close cuts none_free)

    -- the search of it found p, which is taken in
    module _ {p : List ℤ} (foremost : Foremost flip block t row x.s area d p) {new : List ℤ} (taken : Taken coordinates ends p new) where
      stands-there : Stands block t row p
      stands-there = record {
        shape = x.s;
        held = b.given.held;
        stands = free-allowed block t row x.s cut b.given.box area cuts p foremost.free;
      }

      pub others-kept : Kept block t row ends new
      others-kept =
          let g = b.given.subject in
          taken-kept block t g.table row g.row.from g.row.upto g.accepted.head.few_axes taken stands-there

      pub edge-taken : Taken-on (end_at flip d new)
      edge-taken = with-shape (others-kept (x.s - 1) flip d b.below b.edge) (λ q h.
          subst (λ (w : ℤ). Ahead flip w (word q d)) (sym (taken.moved flip d few))
          (behind-first block t row x.s cut b.given.box area flip z d close cuts (word p d) foremost.first q h))
