-- Document 02, T-03, the room: what the checks of a fill leave (`fill-asked`); in a good placement each box of a row that the rule names
-- lies in the rule's room (`box-in-room`), so that the rows cover no cell outside it (`covered-in-room`). Assumes nothing.
use mathlib.Core.Path.{◌≡◌, subst}
use mathlib.Core.Bool.{true, false, ◌&&◌}
use mathlib.Core.List.{List}
use Prim.Native.Nat.{ℕ, ◌≤◌, ◌<◌}
use lib.Dec.{leb}
use lib.IntN.{ℤ, pos, ◌+ℤ◌}
use lib.Signed.{◌≤ℤ◌, ◌<ℤ◌}
use borrow.Author.Tests.{leb-true}
use Rattle.integers.specs.Integer.{nat, within}
use Rattle.integers.specs.Below.{UpTo}
use Rattle.integers.specs.Words.{word}
use Rattle.integers.proofs.Booleans.{not-false, and-true, true-and, implies_true}
use Rattle.integers.proofs.Below.{all-at, any_at, some-upto}
use Rattle.integers.proofs.Ints.{ints, disjoint, le-of-test}
use Rattle.integers.proofs.Ranges.{nat-from}
use Rattle.sheet.specs.Layout.{dims, boxes, rules, shape_of, offset, size, is_of, is_containment, room_low, room_high, names_dim, names_row}
use Rattle.sheet.specs.Layout.{rows, of_row}
use Rattle.sheet.specs.Allowed.{box_contained, rooms_hold}
use Rattle.sheet.specs.Placement.{fixed, point_of, good, box_start, box_end}
use Rattle.sheet.specs.Fill.{rule_asked, is_fill_rule, room_cells, box_covers, row_covers, covers_cell}
use Rattle.sheet.specs.Refusal.{◌when◌, no_fill_rule, bad_cells, not_fixed, not_good, refusal, refusal_placement, refusal_fill}
use Rattle.sheet.specs.Accepted.{Block}
use Rattle.sheet.proofs.Accepted.{when-zero, else-zero, accepted-block}
use Rattle.sheet.proofs.Forbidden.{axis, allowed-parts}
use Rattle.sheet.proofs.Exchange.{at-point}
use Rattle.sheet.proofs.Catalogue.{stands}

-- ---- what the checks leave
pub record FillAsked (block t : List ℤ) (rule : ℤ) : Type 0 where
  pub accepted : refusal block t ≡ 0
  pub all_fixed : fixed block t ≡ true
  pub rule_in : within (pos 1) (pos (rules block)) rule ≡ true
  pub below : rule_asked rule < rules block
  pub is_fill : is_fill_rule block (rule_asked rule) ≡ true
  pub some_cells : 1 ≤ room_cells block (rule_asked rule)
  pub few_cells : room_cells block (rule_asked rule) ≤ 4096
  pub all_good : good block t ≡ true

module _ (block t : List ℤ) (rule : ℤ) (e : refusal_fill block t rule ≡ 0) where
  placement : (refusal block t ≡ 0) × (fixed block t ≡ true)
  unfolding refusal_fill refusal_placement not_fixed
  placement =
      let a = else-zero (refusal block t) _ (else-zero (refusal_placement block t) _ e).0 in
      (a.0, not-false (when-zero 11 (not_fixed block t) a.1))

  asked : (no_fill_rule block rule ≡ false) × (bad_cells block (rule_asked rule) ≡ false) × (not_good block t ≡ false)
  unfolding refusal_fill
  asked =
      let a = else-zero (refusal_placement block t) _ e in
      let b = else-zero (13 when no_fill_rule block rule) _ a.1 in
      let c = else-zero (14 when bad_cells block (rule_asked rule)) _ b.1 in (
        when-zero 12 (no_fill_rule block rule) b.0,
        when-zero 13 (bad_cells block (rule_asked rule)) c.0,
        when-zero 14 (not_good block t) c.1,
      )

  rule-asked : (within (pos 1) (pos (rules block)) rule ≡ true) × (is_fill_rule block (rule_asked rule) ≡ true)
  unfolding no_fill_rule
  rule-asked = and-true (not-false asked.0)

  cells : (leb 1 (room_cells block (rule_asked rule)) ≡ true) × (leb (room_cells block (rule_asked rule)) 4096 ≡ true)
  unfolding bad_cells
  cells = and-true (not-false asked.1)

  rule-below : rule_asked rule < rules block
  unfolding rule_asked
  rule-below = let w = nat-from rule rule-asked.0 in omega ints

  pub fill-asked : FillAsked block t rule
  unfolding not_good
  fill-asked =
      record {
        accepted = placement.0;
        all_fixed = placement.1;
        rule_in = rule-asked.0;
        below = rule-below;
        is_fill = rule-asked.1;
        some_cells = leb-true 1 _ cells.0;
        few_cells = leb-true _ 4096 cells.1;
        all_good = not-false asked.2;
      }

-- ---- the boxes
pub fill-rule : (block : List ℤ) (r : ℕ) → is_fill_rule block r ≡ true
    → (is_containment block r ≡ true) × ((d : ℕ) → d < dims block → names_dim block r d ≡ true)
unfolding is_fill_rule
fill-rule block r e = let w = and-true e in (w.0, λ d h. all-at (names_dim block r) w.1 d h)

module _ (block t : List ℤ) where
  -- a rule that names every dimension holds a box of a row in each
  contained-at : (r i b d : ℕ) → is_fill_rule block r ≡ true → d < dims block → box_contained block r b (point_of block t i) ≡ true
      → (room_low block r d ≤ℤ box_start block t i b d) × (box_end block t i b d ≤ℤ room_high block r d)
  unfolding box_contained box_start box_end
  contained-at r i b d f h e =
      let w = and-true (implies_true (all-at _ e d h) ((fill-rule block r f).1 d h)) in
      subst (λ (z : ℤ). (room_low block r d ≤ℤ (z +ℤ offset block b d)) × ((z +ℤ offset block b d +ℤ size block b d) ≤ℤ room_high block r d))
      (at-point block t i d (axis block h)) (le-of-test w.0, le-of-test w.1)

  rule-holds : (r i s b : ℕ) (p : List ℤ) → r < rules block → is_fill_rule block r ≡ true → names_row block r i ≡ true
      → b < boxes block → is_of block b s ≡ true → rooms_hold block i s p ≡ true → box_contained block r b p ≡ true
  unfolding rooms_hold
  rule-holds r i s b p l f n k o e = implies_true (all-at _ (implies_true (all-at _ e r l) (true-and (fill-rule block r f).0 n)) b k) o

  is-own : (b : ℕ) → 1 ≤ nat (shape_of block b) → is_of block b (nat (shape_of block b)) ≡ true
  unfolding is_of
  is-own b h = omega (ints, disjoint (shape_of block b))

  -- EACH BOX of a row that the rule names lies in the room
  pub box-in-room : Block block → fixed block t ≡ true → good block t ≡ true
      → {r i b d : ℕ} → is_fill_rule block r ≡ true → r < rules block → UpTo (rows block t) i → names_row block r i ≡ true
      → b < boxes block → of_row block t i b ≡ true → d < dims block
      → (room_low block r d ≤ℤ box_start block t i b d) × (box_end block t i b d ≤ℤ room_high block r d)
  unfolding of_row
  box-in-room accepted all-fixed all-good {r} {i} {b} {d} f l u n k o h =
      let s = nat (shape_of block b) in
      let from = accepted.shapes_from b k in
      let at = allowed-parts block t i s _ (stands block t all-fixed all-good i s u from (accepted.shapes_upto b k) o) in
      contained-at r i b d f h (rule-holds r i s b _ l f n k (is-own b from) at.1)

  -- ---- the cells
  -- a covered cell lies in a box of a row that the rule names
  pub record Covered (r : ℕ) (x : List ℤ) : Type 0 where
    pub row : ℕ
    pub row_in : UpTo (rows block t) row
    pub names : names_row block r row ≡ true
    pub box : ℕ
    pub box_below : box < boxes block
    pub own : of_row block t row box ≡ true
    pub covers : box_covers block t row box x ≡ true

  pub covered-parts : (r : ℕ) (x : List ℤ) → covers_cell block t r x ≡ true → Covered r x
  unfolding covers_cell row_covers
  covered-parts r x e =
      let w = some-upto (λ i. names_row block r i && row_covers block t i x) e in
      let u = and-true w.3 in
      let b = any_at u.1 in
      let c = and-true b.2 in
      record { row = w.0; row_in = record { from = w.1; upto = w.2 }; names = u.0; box = b.0; box_below = b.1; own = c.0; covers = c.1 }

  pub covers_at : (i b d : ℕ) (x : List ℤ) → box_covers block t i b x ≡ true → d < dims block
      → (box_start block t i b d ≤ℤ word x d) × (word x d <ℤ box_end block t i b d)
  unfolding box_covers
  covers_at i b d x e h = let w = and-true (all-at _ e d h) in (le-of-test w.0, let l = w.1 in omega ints)

-- EACH COVERED CELL lies in the room
pub covered-in-room : (block t : List ℤ) (rule : ℤ) → refusal_fill block t rule ≡ 0
    → (x : List ℤ) → covers_cell block t (rule_asked rule) x ≡ true → (d : ℕ) → d < dims block
    → (room_low block (rule_asked rule) d ≤ℤ word x d) × (word x d <ℤ room_high block (rule_asked rule) d)
covered-in-room block t rule e x c d h =
    let a = fill-asked block t rule e in
    let w = covered-parts block t (rule_asked rule) x c in
    let q = covers_at block t w.row w.box d x w.covers h in
    let b = box-in-room block t (accepted-block block t a.accepted) a.all_fixed a.all_good a.is_fill a.below
    w.row_in w.names w.box_below w.own h in
    (omega ints, omega ints)
