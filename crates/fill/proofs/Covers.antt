-- Marks that are added box by box and row by row: the boxes of a row's one shape are the row's (`own-box`), the boxes and rows between make no
-- difference, and all of them are what the row, or the rule's rows, cover. Assumes nothing.
use mathlib.Core.Path.{◌≡◌, sym, ap, ◌∙◌}
use mathlib.Core.Bool.{Bool, true, false, cond, ◌&&◌, ◌||◌, or_assoc, or_comm}
use mathlib.Core.List.{List}
use Prim.Native.Nat.{ℕ, suc, ◌+◌, ◌≤◌, ◌<◌}
use native.Mathlib.Numerals.{add-one}
use lib.ListN.{get_or}
use lib.IntN.{ℤ, pos}
use Rattle.integers.specs.Integer.{nat, eq_z}
use Rattle.integers.specs.Below.{any_below, sum_below}
use Rattle.integers.proofs.Booleans.{both_ways}
use Rattle.integers.proofs.Below.{any-zero, any-more, any_next, false-any, upto-at}
use Rattle.integers.proofs.Digits.{sum_same}
use Rattle.integers.proofs.Ints.{eq_z-eq, eq-eq_z}
use Rattle.integers.proofs.Ranges.{pos-nat}
use Rattle.sheet.specs.Layout.{boxes, shape_of, is_of, names_row, rows, has_shape, of_row}
use Rattle.sheet.specs.Placement.{row_fixed, fixed}
use Rattle.sheet.specs.Fill.{room_cells, box_covers, row_covers, covers_cell, covered_cells}
use Rattle.sheet.specs.Cells.{cell_at}
use Rattle.sheet.proofs.Cells.{covered-numbered}
use Rattle.words.specs.declared.Place.{Place}
use Rattle.words.specs.Shapes.{LowestShape}
use Rattle.placement.specs.Before.{SoleShape}
use Rattle.placement.proofs.OneShape.{lowest-sole, sole}
use Rattle.fill.specs.Room.{Named, Adds}

-- ---- marks
module _ {n : ℕ} {old : List Bool} where
  pub adds_none : {f : ℕ → Bool} → ((m : ℕ) → f m ≡ false) → Adds n f old old
  adds_none h = record { marks = λ m l. sym (ap (λ (b : Bool). get_or old m false || b) (h m) ∙ or_comm (get_or old m false) false) }

  pub adds_same : {f g : ℕ → Bool} {new : List Bool} → ((m : ℕ) → m < n → f m ≡ g m) → Adds n f old new → Adds n g old new
  adds_same h a = record { marks = λ m l. a.marks m l ∙ ap (λ (b : Bool). get_or old m false || b) (h m l) }

  pub adds-more : {f g : ℕ → Bool} {marks new : List Bool} → Adds n f old marks → Adds n g marks new → Adds n (λ m. f m || g m) old new
  adds-more {f} {g} a b = record {
    marks = λ m l. b.marks m l ∙ ap (λ (x : Bool). x || g m) (a.marks m l) ∙ or_assoc (get_or old m false) (f m) (g m);
  }

-- ---- the boxes of a row
module _ {block t : List ℤ} {r i : Place} (w : Named block t r i) {s : ℕ} (l : LowestShape block t i.number s) where
  one : SoleShape block t i.number s
  unfolding fixed
  one = lowest-sole block t (upto-at (row_fixed block t) w.counting.all_fixed i.number w.row.from w.row.upto) l

  -- the boxes of the one shape are the row's
  pub own-box : {b : ℕ} → b < boxes block → is_of block b s ≡ of_row block t i.number b
  unfolding is_of of_row
  own-box {b} h = both_ways _ _ there back
    where
      there : eq_z (shape_of block b) (pos s) ≡ true → has_shape block t i.number (nat (shape_of block b)) ≡ true
      there e = ap (λ (z : ℤ). has_shape block t i.number (nat z)) (eq_z-eq e) ∙ l.held

      back : has_shape block t i.number (nat (shape_of block b)) ≡ true → eq_z (shape_of block b) (pos s) ≡ true
      back e = eq-eq_z (sym (pos-nat (w.counting.room.accepted.shapes b h).from) ∙ ap pos (sole block t one _ e))

-- the row's boxes before b cover cell m
module _ (block t : List ℤ) (r i : ℕ) where
  abbrev pub boxes_to : (b m : ℕ) → Bool
  boxes_to b m = any_below b (λ c. of_row block t i c && box_covers block t i c (cell_at block r m))

  pub boxes-first : {b : ℕ} {old : List Bool} → ((c : ℕ) → c < b → of_row block t i c ≡ false) → Adds (room_cells block r) (boxes_to b) old old
  boxes-first h = adds_none (λ m. false-any (λ c l. ap (λ (x : Bool). x && box_covers block t i c (cell_at block r m)) (h c l)))

  pub boxes-next : {b c : ℕ} {old marks new : List Bool} → of_row block t i b ≡ true → b < c
      → ((e : ℕ) → b < e → e < c → of_row block t i e ≡ false)
      → Adds (room_cells block r) (boxes_to b) old marks → Adds (room_cells block r) (λ m. box_covers block t i b (cell_at block r m)) marks new
      → Adds (room_cells block r) (boxes_to c) old new
  boxes-next {b} {c} is l skip a more =
      adds_same (λ m h. ap (λ (x : Bool). boxes_to b m || (x && box_covers block t i b (cell_at block r m))) (sym is)
      ∙ sym (any_next _ l (λ e p q. ap (λ (x : Bool). x && box_covers block t i e (cell_at block r m)) (skip e p q))))
      (adds-more a more)

  pub boxes-all : {b : ℕ} {old new : List Bool} → b ≡ boxes block → Adds (room_cells block r) (boxes_to b) old new
      → Adds (room_cells block r) (λ m. row_covers block t i (cell_at block r m)) old new
  unfolding row_covers
  boxes-all e a = adds_same (λ m h. ap (λ (n : ℕ). boxes_to n m) e) a

-- ---- the rows of a rule
module _ (block t : List ℤ) (r : ℕ) where
  abbrev row-covers : (m j : ℕ) → Bool
  row-covers m j = names_row block r (suc j) && row_covers block t (suc j) (cell_at block r m)

  abbrev pub rows_to : (n m : ℕ) → Bool
  rows_to n m = any_below n (row-covers m)

  pub rows-first : {old : List Bool} → Adds (room_cells block r) (rows_to 0) old old
  rows-first = adds_none (λ m. any-zero (row-covers m))

  -- row n + 1, where the rule names it and where it does not; i is its number as the code holds it
  pub rows_named : (n : ℕ) {i : ℕ} {old marks new : List Bool} → i ≡ n + 1 → names_row block r (n + 1) ≡ true
      → Adds (room_cells block r) (rows_to n) old marks → Adds (room_cells block r) (λ m. row_covers block t i (cell_at block r m)) marks new
      → Adds (room_cells block r) (rows_to (n + 1)) old new
  rows_named n {i} q e a more = adds_same (λ m h. ap (λ (b : Bool). rows_to n m || b) (named m) ∙ sym (any-more n (row-covers m))) (adds-more a more)
    where
      named : (m : ℕ) → row_covers block t i (cell_at block r m) ≡ row-covers m n
      named m =
          ap (λ (j : ℕ). row_covers block t j (cell_at block r m)) (q ∙ add-one n)
          ∙ sym (ap (λ (b : Bool). b && row_covers block t (suc n) (cell_at block r m)) (ap (names_row block r) (sym (add-one n)) ∙ e))

  pub rows_other : (n : ℕ) {old new : List Bool} → names_row block r (n + 1) ≡ false → Adds (room_cells block r) (rows_to n) old new
      → Adds (room_cells block r) (rows_to (n + 1)) old new
  rows_other n e a = adds_same (λ m h. sym (any-more n (row-covers m) ∙ ap (λ (b : Bool). rows_to n m || b) (unnamed m)
      ∙ or_comm (rows_to n m) false)) a
    where
      unnamed : (m : ℕ) → row-covers m n ≡ false
      unnamed m = ap (λ (b : Bool). b && row_covers block t (suc n) (cell_at block r m)) (ap (names_row block r) (sym (add-one n)) ∙ e)

  pub rows_all : {n : ℕ} {old new : List Bool} → n ≡ rows block t → Adds (room_cells block r) (rows_to n) old new
      → Adds (room_cells block r) (λ m. covers_cell block t r (cell_at block r m)) old new
  unfolding covers_cell
  rows_all e a = adds_same (λ m h. ap (λ (n : ℕ). rows_to n m) e) a

  -- what is counted at the end, of marks that were none
  pub marks-counted : {n c : ℕ} {old new : List Bool} → 1 ≤ room_cells block r → n ≡ room_cells block r
      → ((m : ℕ) → m < room_cells block r → get_or old m false ≡ false)
      → Adds (room_cells block r) (λ m. covers_cell block t r (cell_at block r m)) old new
      → c ≡ sum_below n (λ m. cond (get_or new m false) 1 0) → c ≡ covered_cells block t r
  marks-counted {new} some q none a e =
      e ∙ ap (λ (n : ℕ). sum_below n (λ m. cond (get_or new m false) 1 0)) q
      ∙ sum_same (λ m l. ap (λ (b : Bool). cond {A = ℕ} b 1 0) (a.marks m l
      ∙ ap (λ (b : Bool). b || covers_cell block t r (cell_at block r m)) (none m l)))
      ∙ sym (covered-numbered block t r some)
