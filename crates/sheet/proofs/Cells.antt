-- The cells of a room, numbered: how many of them pass a test is a sum over their numbers (`cells-numbered`), so of those that a rule's rows
-- cover (`covered-numbered`), which are no more than the room has (`covered-upto`). Assumes nothing.
use mathlib.Core.Path.{◌≡◌, refl, sym, ap, ap₂, ◌∙◌}
use mathlib.Core.Logic.{⊎_elim}
use mathlib.Core.Bool.{Bool, true, false, cond, ◌&&◌}
use mathlib.Core.List.{List, [], ◌∷◌, ◌++◌, append_assoc, append-nil}
use Prim.Native.Nat.{ℕ, zero, suc, ◌+◌, ◌*◌, ◌≤◌, ◌<◌}
use native.Mathlib.Nat.{not-suc-le-zero, zero-mul, mul-zero, mul-suc}
use native.Mathlib.Omega.{arith}
use lib.IntN.{ℤ, pos, ◌+ℤ◌}
use lib.Signed.{le_z, lt_z}
use Rattle.integers.specs.Below.{sum_below, product_below}
use Rattle.integers.specs.Words.{word, list_below}
use Rattle.integers.specs.Digits.{digit}
use Rattle.integers.proofs.Below.{last_or, all_same, any_same, sum-le}
use Rattle.integers.proofs.Lists.{get_or-list_below}
use Rattle.integers.proofs.Digits.{sum_same, sum-product, product-some, digit_low, digit-top}
use Rattle.sheet.specs.Layout.{dims, room_low, names_row, of_row}
use Rattle.sheet.specs.Placement.{box_start, box_end}
use Rattle.sheet.specs.Fill.{room_width, room_cells, cells_from, box_covers, row_covers, covers_cell, covered_cells}
use Rattle.sheet.specs.Cells.{cell_at}

-- ---- products, sums, lists
-- no factor of a product from 1 up is 0
factors : (a b : ℕ) → 1 ≤ a * b → (1 ≤ a) × (1 ≤ b)
factors zero b h = absurd (omega (arith, zero-mul b))
factors (suc a) zero h = absurd (omega (arith, mul-zero (suc a)))
factors (suc a) (suc b) h = (omega arith, omega arith)

factors-some : (w : ℕ → ℕ) {k : ℕ} → 1 ≤ product_below k w → (d : ℕ) → d < k → 1 ≤ w d
unfolding product_below
factors-some w {k = zero} h d l = absurd (not-suc-le-zero l)
factors-some w {k = suc k} h d l =
    let p = factors (product_below k w) (w k) h in
    ⊎_elim (λ e. rw e p.1) (λ m. factors-some w {k = k} p.0 d m) (last_or l)

sum_alike : (n a : ℕ) → sum_below n (λ c. a) ≡ a * n
unfolding sum_below
sum_alike zero a = sym (mul-zero a)
sum_alike (suc n) a = omega (arith, sum_alike n a, mul-suc a n)

list_same : (n : ℕ) {f g : ℕ → ℤ} → ((d : ℕ) → d < n → f d ≡ g d) → list_below n f ≡ list_below n g
unfolding list_below
list_same zero h = refl
list_same (suc n) h = ap₂ (λ (xs : List ℤ) (z : ℤ). xs ++ (z ∷ [])) (list_same n (λ d l. h d (omega arith))) (h n (omega arith))

-- ---- the room of rule r
module _ (block : List ℤ) (r : ℕ) where
  abbrev coordinate : ℕ → ℕ → ℤ
  coordinate m d = room_low block r d +ℤ pos (digit (room_width block r) m d)

  pub cell-word : (m : ℕ) {d : ℕ} → d < dims block → word (cell_at block r m) d ≡ room_low block r d +ℤ pos (digit (room_width block r) m d)
  unfolding cell_at
  cell-word m l = get_or-list_below (coordinate m) (pos 0) l

  pub widths-some : 1 ≤ room_cells block r → (d : ℕ) → d < dims block → 1 ≤ room_width block r d
  unfolding room_cells
  widths-some h = factors-some (room_width block r) h

  module _ (f : List ℤ → Bool) where
    abbrev passes : List ℤ → ℕ
    passes x = cond (f x) 1 0

    -- of the cells whose coordinates from dimension k on are x, number m is the first k coordinates of cell m, before x
    numbered-from : (k : ℕ) → ((d : ℕ) → d < k → 1 ≤ room_width block r d) → (x : List ℤ)
        → cells_from block r f k x ≡ sum_below (product_below k (room_width block r)) (λ m. passes (list_below k (coordinate m) ++ x))
    unfolding cells_from sum_below product_below list_below
    numbered-from zero some x = omega arith
    numbered-from (suc k) some x =
        sum_same (λ c l. numbered-from k before (at c ∷ x) ∙ sum_same (λ m h. ap passes (next m c h l)))
        ∙ sym (sum-product p (room_width block r k) (λ m. passes (list_below k (coordinate m) ++ (coordinate m k ∷ []) ++ x)))
      where
        before : (d : ℕ) → d < k → 1 ≤ room_width block r d
        before d l = some d (omega arith)

        p : ℕ
        p = product_below k (room_width block r)

        at : ℕ → ℤ
        at c = room_low block r k +ℤ pos c

        next : (m c : ℕ) → m < p → c < room_width block r k
            → list_below k (coordinate m) ++ (at c ∷ x)
            ≡ list_below k (coordinate (m + c * p)) ++ (coordinate (m + c * p) k ∷ []) ++ x
        next m c h l =
            ap₂ (λ (xs : List ℤ) (z : ℤ). xs ++ (z ∷ x))
            (list_same k (λ d e. ap (λ (n : ℕ). room_low block r d +ℤ pos n) (sym (digit_low m c e before))))
            (ap at (sym (digit-top (room_width block r) k (product-some before) h l)))
            ∙ sym (append_assoc (list_below k (coordinate (m + c * p))) (coordinate (m + c * p) k ∷ []) x)

    -- THE CELLS NUMBERED: each cell of the room has one number
    pub cells-numbered : 1 ≤ room_cells block r
        → cells_from block r f (dims block) [] ≡ sum_below (room_cells block r) (λ m. cond (f (cell_at block r m)) 1 0)
    unfolding room_cells cell_at
    cells-numbered h =
        numbered-from (dims block) (widths-some h) [] ∙ sum_same (λ m l. ap passes (append-nil (list_below (dims block) (coordinate m))))

    cells-upto : (k : ℕ) (x : List ℤ) → cells_from block r f k x ≤ product_below k (room_width block r)
    unfolding cells_from product_below
    cells-upto zero x = one-upto (f x)
      where
        one-upto : (b : Bool) → cond b 1 0 ≤ 1
        one-upto true = omega arith
        one-upto false = omega arith
    cells-upto (suc k) x =
        let p = product_below k (room_width block r) in
        omega (
          arith,
          sum-le {n = room_width block r k} {g = λ c. p} (λ c l. cells-upto k ((room_low block r k +ℤ pos c) ∷ x)),
          sum_alike (room_width block r k) p,
        )

-- ---- the cells that rule r's rows cover
module _ (block t : List ℤ) (r : ℕ) where
  box-agree : (i b : ℕ) (p q : List ℤ) → ((d : ℕ) → d < dims block → word p d ≡ word q d) → box_covers block t i b p ≡ box_covers block t i b q
  unfolding box_covers
  box-agree i b p q h = all_same (λ d l. ap (λ (z : ℤ). le_z (box_start block t i b d) z && lt_z z (box_end block t i b d)) (h d l))

  -- coordinates from the last dimension on do not matter
  pub covers-agree : (p q : List ℤ) → ((d : ℕ) → d < dims block → word p d ≡ word q d) → covers_cell block t r p ≡ covers_cell block t r q
  unfolding covers_cell row_covers
  covers-agree p q h =
      any_same (λ i l. ap (λ (x : Bool). names_row block r (suc i) && x)
      (any_same (λ b m. ap (λ (x : Bool). of_row block t (suc i) b && x) (box-agree (suc i) b p q h))))

  pub covered-numbered : 1 ≤ room_cells block r
      → covered_cells block t r ≡ sum_below (room_cells block r) (λ m. cond (covers_cell block t r (cell_at block r m)) 1 0)
  unfolding covered_cells
  covered-numbered = cells-numbered block r (covers_cell block t r)

  pub covered-upto : covered_cells block t r ≤ room_cells block r
  unfolding covered_cells room_cells
  covered-upto = cells-upto block r (covers_cell block t r) (dims block) []
