-- The fill of a room in cases with numbers (document 02, T-03): boxes that share cells, rows that share cells and rows that are not named,
-- rooms of one to three dimensions, the refusals in their order; and the limits of a room's cells. That every case passes, and the figure at
-- and beside a half, is proofs/FillsPass.antt. Assumes nothing.
use Rattle.std.specs.Prelude.{Bool, true, false, ◌&&◌, List, [], ◌∷◌, ◌++◌, ℕ, zero, suc, eqb, ℤ, pos}
use Rattle.integers.specs.Integer.{minus}
use Rattle.sheet.specs.Refusal.{bad_cells, refusal_fill}
use Rattle.sheet.specs.Fill.{rule_asked, room_cells, covered_cells, permille}
use Rattle.sheet.specs.Positions.{words, row, row2}

-- ---- what is asked, and the answer
pub data FillExpected : Type 0 where
  covers : (cells figure : ℕ) → FillExpected
  turned_away : ℕ → FillExpected

pub record FillCase : Type 0 where
  pub block : List ℤ
  pub table : List ℤ
  pub rule : ℤ
  pub expected : FillExpected

-- g is the refusal, 0 where there is none, c the cells covered and n those of the room
unfoldable pub is_answered : ℕ → ℕ → ℕ → FillExpected → Bool
is_answered zero c n (covers cells figure) = eqb c cells && eqb (permille c n) figure
is_answered zero c n (turned_away g) = false
is_answered (suc m) c n (covers cells figure) = false
is_answered (suc m) c n (turned_away g) = eqb (suc m) g

unfoldable pub all_answered : List FillCase → Bool
all_answered [] = true
all_answered (c ∷ cs) =
    elim (is_answered (refusal_fill c.block c.table c.rule) (covered_cells c.block c.table (rule_asked c.rule))
    (room_cells c.block (rule_asked c.rule)) c.expected) [
      | true ↦ all_answered cs
      | false ↦ false
    ]

-- ---- the sheets
-- k = 2: shape 1 is one cell, shape 2 two squares that share a cell, shape 3 three cells in a line; the rules follow
unfoldable pub with_rules : ℕ → List ℕ → List ℤ
with_rules n rest = words (2 ∷ 4 ∷ n ∷ 1 ∷ 0 ∷ 0 ∷ 1 ∷ 1 ∷ 2 ∷ 0 ∷ 0 ∷ 2 ∷ 2 ∷ 2 ∷ 1 ∷ 1 ∷ 2 ∷ 2 ∷ 3 ∷ 0 ∷ 0 ∷ 3 ∷ 1 ∷ []) ++ words rest

-- one rule: a room of a by b cells for the rows of a set
unfoldable pub room_for : ℕ → ℕ → ℕ → List ℤ
room_for set a b = with_rules 1 (2 ∷ 3 ∷ set ∷ 0 ∷ a ∷ 0 ∷ b ∷ [])

-- the same room of 4 by 4 cells in the dimensions of a set, beside a non-overlap rule
unfoldable pub room_beside : ℕ → List ℤ
room_beside dims = with_rules 2 (1 ∷ 3 ∷ 3 ∷ 0 ∷ 0 ∷ 0 ∷ 0 ∷ 2 ∷ dims ∷ 3 ∷ 0 ∷ 4 ∷ 0 ∷ 0 ∷ [])

-- the row's set of shapes, at (x, y)
unfoldable pub placed : ℕ → ℕ → ℕ → List ℤ
placed set x y = row2 set x x y y

-- k = 1: one shape of size 3, in a room from −2 to 5
unfoldable pub corridor : List ℤ
corridor = words (1 ∷ 1 ∷ 1 ∷ 1 ∷ 0 ∷ 3 ∷ 2 ∷ 1 ∷ 1 ∷ []) ++ (minus 2 ∷ pos 5 ∷ [])

-- k = 3: one box of 2 by 1 by 3 in a room of 2 by 3 by 4
unfoldable pub solid : List ℤ
solid = words (3 ∷ 1 ∷ 1 ∷ 1 ∷ 0 ∷ 0 ∷ 0 ∷ 2 ∷ 1 ∷ 3 ∷ 2 ∷ 7 ∷ 1 ∷ 0 ∷ 2 ∷ 0 ∷ 3 ∷ 0 ∷ 4 ∷ [])

-- k = 4: one cell in the largest room
unfoldable pub largest : List ℤ
largest =
    words (4 ∷ 1 ∷ 1 ∷ 1 ∷ 0 ∷ 0 ∷ 0 ∷ 0 ∷ 1 ∷ 1 ∷ 1 ∷ 1 ∷ 2 ∷ 15 ∷ 1 ∷ [])
    ++ (minus 1000000 ∷ pos 1000000 ∷ minus 1000000 ∷ pos 1000000 ∷ minus 1000000 ∷ pos 1000000 ∷ minus 1000000 ∷ pos 1000000 ∷ [])

-- ---- the cases
abbrev case : List ℤ → List ℤ → ℤ → FillExpected → FillCase
case b t r e = record { block = b; table = t; rule = r; expected = e }

unfoldable pub fills : List FillCase
fills =
    case (room_for 1 4 4) (placed 1 0 0) (pos 1) (covers 1 63)
    ∷ case (room_for 1 4 4) (placed 4 0 0) (pos 1) (covers 3 188)
    ∷ case (room_for 1 4 4) (placed 2 0 0) (pos 1) (covers 7 438)
    -- two rows on one cell; two that share two cells; a row that is not named
    ∷ case (room_for 3 4 4) (placed 1 0 0 ++ placed 1 0 0) (pos 1) (covers 1 63)
    ∷ case (room_for 3 4 4) (placed 4 0 0 ++ placed 4 1 0) (pos 1) (covers 4 250)
    ∷ case (room_for 1 4 4) (placed 1 0 0 ++ placed 4 1 1) (pos 1) (covers 1 63)
    ∷ case (room_for 2 4 4) (placed 1 0 0 ++ placed 4 1 1) (pos 1) (covers 3 188)
    -- one and three dimensions
    ∷ case corridor (row 1 (minus 2) (minus 2)) (pos 1) (covers 3 429)
    ∷ case corridor (row 1 (pos 2) (pos 2)) (pos 1) (covers 3 429)
    ∷ case solid (words (1 ∷ 0 ∷ 0 ∷ 2 ∷ 2 ∷ 1 ∷ 1 ∷ [])) (pos 1) (covers 6 250)
    -- 12 before 13; 13: no such rule, a rule of kind 1, a rule that names one dimension
    ∷ case (room_for 1 4 4) (row2 1 0 1 0 0) (pos 9) (turned_away 12)
    ∷ case (room_for 1 4 4) (placed 1 0 0) (pos 0) (turned_away 13)
    ∷ case (room_for 1 4 4) (placed 1 0 0) (minus 1) (turned_away 13)
    ∷ case (room_for 1 4 4) (placed 1 0 0) (pos 2) (turned_away 13)
    ∷ case (room_beside 1) (placed 1 0 0 ++ placed 1 1 0) (pos 1) (turned_away 13)
    ∷ case (room_beside 1) (placed 1 0 0 ++ placed 1 1 0) (pos 2) (turned_away 13)
    -- 14, also where the row lies outside: no cell, 4,097 and the largest room
    ∷ case (room_for 1 0 4) (placed 1 0 0) (pos 1) (turned_away 14)
    ∷ case (room_for 1 17 241) (placed 1 0 0) (pos 1) (turned_away 14)
    ∷ case largest (words (1 ∷ 0 ∷ 0 ∷ 0 ∷ 0 ∷ 0 ∷ 0 ∷ 0 ∷ 0 ∷ [])) (pos 1) (turned_away 14)
    -- 15: a named row outside the room; two rows of another rule that overlap
    ∷ case (room_for 1 4 4) (placed 1 4 0) (pos 1) (turned_away 15)
    ∷ case (with_rules 2 (2 ∷ 3 ∷ 1 ∷ 0 ∷ 4 ∷ 0 ∷ 4 ∷ 1 ∷ 3 ∷ 6 ∷ 0 ∷ 0 ∷ 0 ∷ 0 ∷ [])) (placed 1 0 0 ++ placed 1 9 9 ++ placed 1 9 9) (pos 1)
    (turned_away 15)
    ∷ []

-- ---- the limits: 4,096 cells are counted, 4,097 are not
unfoldable pub is_counted : ℕ → ℕ → Bool
is_counted a b = eqb (room_cells (room_for 1 a b) 0) 4096 && elim (bad_cells (room_for 1 a b) 0) [ true ↦ false | false ↦ true ]
