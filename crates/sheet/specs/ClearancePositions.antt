-- Clearances in cases with numbers (document 02, T-02): the interval that grows at both ends, boxes that are clear in one of two dimensions,
-- two rules over the same rows in both orders, rooms, and the limits of the words. That every case passes is proofs/ClearancesPass.antt.
-- Assumes nothing.
use Rattle.std.specs.Prelude.{Bool, true, false, List, [], ◌∷◌, ◌++◌, ℕ, eqb, ℤ, pos}
use Rattle.std.proofs.Math.Option.{none, some}
use Rattle.integers.specs.Integer.{minus}
use Rattle.sheet.specs.Refusal.{refusal}
use Rattle.sheet.specs.Positions.{Case, has_least, forbids, settles, is_good}
use Rattle.sheet.specs.Positions.{words, row, row2, boxes_from, ab_rows, case}

-- ---- the sheets
-- k = 1: A, shape 1 of size 3, and B, shape 2 of size 2, one unit apart
unfoldable pub ab_apart : List ℤ
ab_apart = words (1 ∷ 2 ∷ 1 ∷ []) ++ boxes_from 1 (3 ∷ 2 ∷ []) ++ words (1 ∷ 1 ∷ 3 ∷ 1 ∷ 0 ∷ [])

-- k = 1: two rules for rows 1 and 2 of size 2, with the clearances g and h
unfoldable pub twice : ℕ → ℕ → List ℤ
twice g h = words (1 ∷ 1 ∷ 2 ∷ 1 ∷ 0 ∷ 2 ∷ 1 ∷ 1 ∷ 3 ∷ g ∷ 0 ∷ 1 ∷ 1 ∷ 3 ∷ h ∷ 0 ∷ [])

-- k = 1: rows 1 and 2 of size 2, one unit apart, in a room from 0 to h
unfoldable pub room_apart : ℕ → List ℤ
room_apart h = words (1 ∷ 1 ∷ 2 ∷ 1 ∷ 0 ∷ 2 ∷ 1 ∷ 1 ∷ 3 ∷ 1 ∷ 0 ∷ 2 ∷ 1 ∷ 3 ∷ 0 ∷ h ∷ [])

-- k = 2: squares of size 2, rows 1 and 2 apart in the dimensions of a set, with the rule's low and high words
unfoldable pub squares : ℕ → List ℤ → List ℤ
squares set ends = words (2 ∷ 1 ∷ 1 ∷ 1 ∷ 0 ∷ 0 ∷ 2 ∷ 2 ∷ 1 ∷ set ∷ 3 ∷ []) ++ ends

-- the first square at (0, 0), the second at (x, y)
unfoldable pub squares_at : ℕ → ℕ → List ℤ
squares_at x y = row2 1 0 0 0 0 ++ row2 1 x x y y

unfoldable pub unit_apart : List ℤ
unit_apart = squares 3 (words (1 ∷ 0 ∷ 1 ∷ 0 ∷ []))

-- ---- the positions
unfoldable pub clearance_positions : List Case
clearance_positions =
    -- A at 0, B in −3..5: least −3. B in −2..5: least 4. B in −2..3: none
    case ab_apart (ab_rows (pos 0) (pos 0) (minus 3) (pos 5)) (has_least 2 2 (some (minus 3)))
    ∷ case ab_apart (ab_rows (pos 0) (pos 0) (minus 2) (pos 5)) (has_least 2 2 (some (pos 4)))
    ∷ case ab_apart (ab_rows (pos 0) (pos 0) (minus 2) (pos 3)) (has_least 2 2 none)
    -- A in 0..1 forbids B −1 to 3; in 0..4 2 to 3, where without a clearance nothing is forbidden; in 0..5 only 3; in 0..6 nothing
    ∷ case ab_apart (ab_rows (pos 0) (pos 1) (minus 10) (pos 10)) (forbids 2 2 1 1 0 (minus 1) (pos 3))
    ∷ case ab_apart (ab_rows (pos 0) (pos 4) (minus 10) (pos 10)) (forbids 2 2 1 1 0 (pos 2) (pos 3))
    ∷ case ab_apart (ab_rows (pos 0) (pos 5) (minus 10) (pos 10)) (forbids 2 2 1 1 0 (pos 3) (pos 3))
    ∷ case ab_apart (ab_rows (pos 0) (pos 6) (minus 10) (pos 10)) (forbids 2 2 1 1 0 (pos 4) (pos 3))
    -- squares one unit apart in either dimension, with the first at (0, 0): the second at (3, 0) and (2, 3) is clear, at (2, 0) and (2, 2) not
    ∷ case unit_apart (squares_at 3 0) (is_good true)
    ∷ case unit_apart (squares_at 2 0) (is_good false)
    ∷ case unit_apart (squares_at 2 3) (is_good true)
    ∷ case unit_apart (squares_at 2 2) (is_good false)
    -- rules without and with a clearance of 2, in both orders: the second row keeps 4..6 of 0..6
    ∷ case (twice 0 2) (row 1 (pos 0) (pos 0) ++ row 1 (pos 0) (pos 6)) (settles (some (row 1 (pos 0) (pos 0) ++ row 1 (pos 4) (pos 6))))
    ∷ case (twice 2 0) (row 1 (pos 0) (pos 0) ++ row 1 (pos 0) (pos 6)) (settles (some (row 1 (pos 0) (pos 0) ++ row 1 (pos 4) (pos 6))))
    -- two rows of size 2 one unit apart: in a room 0 to 5, range 0..3 each, settled as given; in a room 0 to 4, range 0..2 each, no layout
    ∷ case (room_apart 5) (row 1 (pos 0) (pos 3) ++ row 1 (pos 0) (pos 3)) (settles (some (row 1 (pos 0) (pos 3) ++ row 1 (pos 0) (pos 3))))
    ∷ case (room_apart 4) (row 1 (pos 0) (pos 2) ++ row 1 (pos 0) (pos 2)) (settles none)
    ∷ []

-- ---- the limits: the ground that the squares' rule with these words meets, or 0
unfoldable pub ground_is : ℕ → ℕ → List ℤ → Bool
ground_is g set ends = eqb (refusal (squares set ends) (squares_at 9 9)) g
