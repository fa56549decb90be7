-- Rows with several shapes in cases with numbers (document 02, T-05): what every shape of a set forbids and one alone does not, pairs of
-- boxes that differ from shape to shape, a clearance, and rules that are never joined. That every case passes is proofs/SeveralPass.antt.
-- Assumes nothing.
use Rattle.std.specs.Prelude.{Bool, ◌&&◌, List, [], ◌∷◌, ◌++◌, ℕ, eqb, ℤ, pos}
use Rattle.std.proofs.Math.Option.{some}
use Rattle.integers.specs.Integer.{minus}
use Rattle.sheet.specs.Refusal.{refusal}
use Rattle.sheet.specs.Positions.{Case, has_least, narrows, settles, forbids_only}
use Rattle.sheet.specs.Positions.{words, row, row2, boxes_from, line, case}

-- ---- the sheets
-- k = 1: boxes, each a shape, an offset and a size, and rows 1 and 2 apart
unfoldable pub boxed : ℕ → List ℕ → List ℤ
boxed count boxes = words (1 ∷ count ∷ 1 ∷ boxes) ++ words (1 ∷ 1 ∷ 3 ∷ 0 ∷ 0 ∷ [])

-- row 1 at 0 with shape 1 or 2, and row 2 in a range with a set of its own
unfoldable pub either : ℕ → ℤ → ℤ → List ℤ
either set a b = row 3 (pos 0) (pos 0) ++ row set a b

-- k = 1: A of size 3 or 4, and B of size 2, one unit apart
unfoldable pub unit_apart : List ℤ
unit_apart = words (1 ∷ 3 ∷ 1 ∷ []) ++ boxes_from 1 (3 ∷ 4 ∷ 2 ∷ []) ++ words (1 ∷ 1 ∷ 3 ∷ 1 ∷ 0 ∷ [])

-- A is [0, 2) or [1, 3); [0, 1) and [4, 5), or [0, 5); [0, 1) or [1, 2): B of size 1
unfoldable pub shifted : List ℤ
shifted = boxed 3 (1 ∷ 0 ∷ 2 ∷ 2 ∷ 1 ∷ 2 ∷ 3 ∷ 0 ∷ 1 ∷ [])

unfoldable pub gapped : List ℤ
gapped = boxed 4 (1 ∷ 0 ∷ 1 ∷ 1 ∷ 4 ∷ 1 ∷ 2 ∷ 0 ∷ 5 ∷ 3 ∷ 0 ∷ 1 ∷ [])

unfoldable pub beside : List ℤ
beside = boxed 3 (1 ∷ 0 ∷ 1 ∷ 2 ∷ 1 ∷ 1 ∷ 3 ∷ 0 ∷ 1 ∷ [])

-- A is [0, 1) or [3, 4), and B both
unfoldable pub own_boxes : List ℤ
own_boxes = boxed 4 (1 ∷ 0 ∷ 1 ∷ 2 ∷ 3 ∷ 1 ∷ 3 ∷ 0 ∷ 1 ∷ 3 ∷ 3 ∷ 1 ∷ [])

-- k = 2: A a unit at (0, 5) or at (5, 0), B a unit; one rule in dimension 0, one in dimension 1
unfoldable pub two_rules : List ℤ
two_rules =
    words (2 ∷ 3 ∷ 2 ∷ 1 ∷ 0 ∷ 5 ∷ 1 ∷ 1 ∷ 2 ∷ 5 ∷ 0 ∷ 1 ∷ 1 ∷ 3 ∷ 0 ∷ 0 ∷ 1 ∷ 1 ∷ 1 ∷ 1 ∷ 3 ∷ 0 ∷ 0 ∷ 0 ∷ 0 ∷ 1 ∷ 2 ∷ 3 ∷ 0 ∷ 0 ∷ 0 ∷ 0 ∷ [])

-- k = 1: rows 1 and 2 are [0, 1) or [3, 4), row 3 has size 1, and all are apart
unfoldable pub three_apart : List ℤ
three_apart = words (1 ∷ 3 ∷ 1 ∷ 1 ∷ 0 ∷ 1 ∷ 2 ∷ 3 ∷ 1 ∷ 3 ∷ 0 ∷ 1 ∷ 1 ∷ 1 ∷ 7 ∷ 0 ∷ 0 ∷ [])

-- ---- the positions
unfoldable pub several_positions : List Case
several_positions =
    -- one unit apart, B in −2..6: least 4
    case unit_apart (either 4 (minus 2) (pos 6)) (has_least 2 3 (some (pos 4)))
    -- A is [0, 1) and [4, 5), or [0, 5): of 0..4 B keeps 1..3
    ∷ case gapped (either 4 (pos 0) (pos 4)) (narrows 2 (some (either 4 (pos 1) (pos 3))))
    -- B's own boxes differ from shape to shape of A: at 0 each meets one, at 1 none
    ∷ case own_boxes (either 4 (pos 0) (pos 1)) (has_least 2 3 (some (pos 1)))
    -- two rows of size 3 or 2, at 0 and in 0..2: the second stands at 2, and the first has size 2
    ∷ case (line (3 ∷ 2 ∷ []) 2 3) (either 3 (pos 0) (pos 2)) (settles (some (row 2 (pos 0) (pos 0) ++ row 3 (pos 2) (pos 2))))
    -- at (0, 0) one rule meets A's first shape and the other rule its second: neither forbids B that point
    ∷ case two_rules (row2 3 0 0 0 0 ++ row2 4 0 0 0 0) (has_least 2 3 (some (pos 0)))
    -- row 3 at 3 meets the second shape of row 1 at 0 and the first shape of row 2 at 3: neither row forbids it that point
    ∷ case three_apart (row 3 (pos 0) (pos 0) ++ row 3 (pos 3) (pos 3) ++ row 4 (pos 3) (pos 3)) (has_least 3 3 (some (pos 3)))
    ∷ []

-- of the numbers from −10 to 10 row 1 forbids row 2 with shape 3 these alone
unfoldable pub spans : List ℤ → ℤ → ℤ → Bool
spans block from to = eqb (refusal block (either 4 (minus 10) (pos 10))) 0 && forbids_only block (either 4 (minus 10) (pos 10)) 2 3 from to
