-- Document 02, T-03: the fill of a room. The rule asked about is of kind 2 and names every dimension; counted are the cells of its room that its
-- rows cover, each once, and their share in thousandths. A cell is a unit cube with whole corners; it is named by its low corner.
-- That a good placement covers no cell of the rule's rows outside the room is proofs/Fill.antt; that each covered cell is counted once,
-- proofs/Counted.antt; that the figure is the nearest whole one, a half going up, proofs/Rounding.antt.
-- Assumes nothing.
use Rattle.std.specs.Prelude.{◌≡◌, Bool, true, cond, ◌&&◌, List, [], ◌∷◌, ℕ, zero, suc, ◌+◌, ◌-◌, ◌*◌, ◌/◌, ◌≤◌, ◌<◌, length, ℤ, pos, ◌+ℤ◌, ◌-ℤ◌}
use Rattle.std.specs.Int.Signed.{le_z, lt_z}
use Rattle.integers.specs.Integer.{nat}
use Rattle.integers.specs.Below.{all_below, any_below, any_up_to, sum_below, product_below}
use Rattle.integers.specs.Words.{word}
use Rattle.sheet.specs.Layout.{dims, boxes, is_containment, room_low, room_high, names_dim, names_row, rows, of_row}
use Rattle.sheet.specs.Placement.{box_start, box_end}

-- the rule at a position, from 1; rules are counted from 0
unfoldable pub rule_asked : ℤ → ℕ
rule_asked rule = nat rule - 1

module _ (block : List ℤ) where
  -- ---- the room
  unfoldable pub is_fill_rule : ℕ → Bool
  is_fill_rule r = is_containment block r && all_below (dims block) (names_dim block r)

  -- how many cells wide it is in dimension d
  unfoldable pub room_width : ℕ → ℕ → ℕ
  room_width r d = nat (room_high block r d -ℤ room_low block r d)

  unfoldable pub room_cells : ℕ → ℕ
  room_cells r = product_below (dims block) (room_width r)

  -- how many cells pass f, of those whose coordinates below dimension m lie in the room and from m on are x
  unfoldable pub cells_from : ℕ → (List ℤ → Bool) → ℕ → List ℤ → ℕ
  cells_from r f zero x = cond (f x) 1 0
  cells_from r f (suc m) x = sum_below (room_width r m) (λ c. cells_from r f m ((room_low block r m +ℤ pos c) ∷ x))

  module _ (table : List ℤ) where
    -- ---- the cells

    -- box b of row i covers cell x
    unfoldable pub box_covers : ℕ → ℕ → List ℤ → Bool
    box_covers i b x = all_below (dims block) (λ d. le_z (box_start block table i b d) (word x d) && lt_z (word x d) (box_end block table i b d))

    -- a box of row i does
    unfoldable pub row_covers : ℕ → List ℤ → Bool
    row_covers i x = any_below (boxes block) (λ b. of_row block table i b && box_covers i b x)

    -- a row that rule r names does
    unfoldable pub covers_cell : ℕ → List ℤ → Bool
    covers_cell r x = any_up_to (rows block table) (λ i. names_row block r i && row_covers i x)

    unfoldable pub covered_cells : ℕ → ℕ
    covered_cells r = cells_from r (covers_cell r) (dims block) []

-- ---- each cell once

-- n is the number of the cells that pass f: they are numbered from 0, each once. A cell is a list of k coordinates.
pub record CountsCells (k : ℕ) (f : List ℤ → Bool) (n : ℕ) : Type 0 where
  pub cell : ℕ → List ℤ
  pub coordinates : (j : ℕ) → j < n → length (cell j) ≡ k
  pub passes : (j : ℕ) → j < n → f (cell j) ≡ true
  pub once : (i j : ℕ) → i < n → j < n → cell i ≡ cell j → i ≡ j
  pub each : (x : List ℤ) → length x ≡ k → f x ≡ true → (j : ℕ) × (j < n) × (cell j ≡ x)

-- ---- the figure

-- how far two numbers lie from each other
unfoldable pub distance : ℕ → ℕ → ℕ
distance x y = (x - y) + (y - x)

-- f is the whole number nearest to a / n, and the greater of two that are as near
pub record Nearest (a n f : ℕ) : Type 0 where
  pub nearest : (g : ℕ) → distance (f * n) a ≤ distance (g * n) a
  pub greater : (g : ℕ) → distance (g * n) a ≤ distance (f * n) a → g ≤ f

-- a / n, rounded to the nearest whole number, a half going up
unfoldable pub half_up : ℕ → ℕ → ℕ
half_up a n = (2 * a + n) / (2 * n)

-- c of n, in thousandths
unfoldable pub permille : ℕ → ℕ → ℕ
permille c n = half_up (1000 * c) n

-- one name that opens every definition above: `unfolding filling`
unfoldable pub filling : Unit {0}
unfolding rule_asked is_fill_rule room_width room_cells cells_from box_covers row_covers covers_cell covered_cells distance half_up permille
filling = tt
