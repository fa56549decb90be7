-- How rows stand to each other in cases with numbers (document 02, T-01), both ways round; shapes of several boxes; and the refusals in
-- their order. That every case passes is proofs/StandingsPass.antt. Assumes nothing.
use Rattle.std.specs.Prelude.{Bool, true, false, List, [], ◌∷◌, ◌++◌, ℕ, zero, suc, eqb, ℤ, pos}
use Rattle.integers.specs.Integer.{minus, nat}
use Rattle.sheet.specs.declared.Allen.{Allen}
use Rattle.sheet.specs.declared.Allen.TheVariants as A
use Rattle.sheet.specs.Refusal.{refusal_relation}
use Rattle.sheet.specs.Relation.{relation_number, relation_of}
use Rattle.sheet.specs.Positions.{words, row, row2, line}

-- ---- what is asked, and the answer
pub data Expected : Type 0 where
  bears_to : Allen → Expected
  refused_by : ℕ → Expected

pub record StandingCase : Type 0 where
  pub block : List ℤ
  pub table : List ℤ
  pub row_of : ℤ
  pub other : ℤ
  pub dim : ℤ
  pub expected : Expected

-- g is the refusal, 0 where there is none, and x the relation
unfoldable pub is_found : ℕ → Allen → Expected → Bool
is_found zero x (bears_to y) = eqb (relation_number x) (relation_number y)
is_found zero x (refused_by g) = false
is_found (suc n) x (bears_to y) = false
is_found (suc n) x (refused_by g) = eqb (suc n) g

unfoldable pub all_found : List StandingCase → Bool
all_found [] = true
all_found (c ∷ cs) =
    elim (is_found (refusal_relation c.block c.table c.row_of c.other c.dim)
    (relation_of c.block c.table (nat c.row_of) (nat c.other) (nat c.dim)) c.expected) [
      | true ↦ all_found cs
      | false ↦ false
    ]

-- ---- the sheets
-- shape 1 of size 4 and shape 2 of size 2, the first row at x and the second at 0; k = 1
unfoldable pub long_and_short : List ℤ
long_and_short = line (4 ∷ 2 ∷ []) 2 3

unfoldable pub long_at : ℤ → List ℤ
long_at x = row 1 x x ++ row 2 (pos 0) (pos 0)

-- shape 1 is two boxes, and shape 2 one
unfoldable pub two_boxes : ℤ → ℕ → ℤ → ℕ → ℕ → List ℤ
two_boxes t l t' l' m = words (1 ∷ 3 ∷ 0 ∷ []) ++ (pos 1 ∷ t ∷ pos l ∷ pos 1 ∷ t' ∷ pos l' ∷ words (2 ∷ 0 ∷ m ∷ []))

-- k = 2: one square, two rows that are fixed and one that is not
unfoldable pub square : List ℤ
square = words (2 ∷ 1 ∷ 0 ∷ 1 ∷ 0 ∷ 0 ∷ 2 ∷ 2 ∷ [])

unfoldable pub fixed_rows : List ℤ
fixed_rows = row2 1 0 0 0 0 ++ row2 1 2 2 1 1

unfoldable pub open_row : List ℤ
open_row = row2 1 0 1 0 0

-- ---- the cases
abbrev case : List ℤ → List ℤ → ℤ → ℤ → ℤ → Expected → StandingCase
case b t i j d f = record { block = b; table = t; row_of = i; other = j; dim = d; expected = f }

-- the longer row at x: what it bears to the shorter one, and what that bears to it
abbrev both : ℤ → Allen → Allen → List StandingCase
both x to back =
    case long_and_short (long_at x) (pos 1) (pos 2) (pos 0) (bears_to to)
    ∷ case long_and_short (long_at x) (pos 2) (pos 1) (pos 0) (bears_to back) ∷ []

unfoldable pub standings : List StandingCase
standings =
    both (minus 5) A.Precedes A.PrecededBy
    ++ both (minus 4) A.Meets A.MetBy
    ++ both (minus 3) A.Overlaps A.OverlappedBy
    ++ both (minus 2) A.FinishedBy A.Finishes
    ++ both (minus 1) A.Contains A.During
    ++ both (pos 0) A.StartedBy A.Starts
    ++ both (pos 1) A.OverlappedBy A.Overlaps
    ++ both (pos 2) A.MetBy A.Meets
    ++ both (pos 3) A.PrecededBy A.Precedes
    ++ (
    -- offsets count, and a gap between two boxes lies inside
    case (two_boxes (pos 1) 1 (pos 3) 2 4) (row 1 (pos 0) (pos 0) ++ row 2 (pos 1) (pos 1)) (pos 1) (pos 2) (pos 0) (bears_to A.Equals)
    ∷ case (two_boxes (pos 2) 3 (minus 4) 1 2) (row 1 (pos 0) (pos 0) ++ row 2 (pos 5) (pos 5)) (pos 1) (pos 2) (pos 0) (bears_to A.Meets)
    -- a row and itself; rows that overlap are answered
    ∷ case square fixed_rows (pos 2) (pos 2) (pos 1) (bears_to A.Equals)
    ∷ case square fixed_rows (pos 1) (pos 2) (pos 0) (bears_to A.Meets)
    ∷ case square fixed_rows (pos 1) (pos 2) (pos 1) (bears_to A.Overlaps)
    -- 9 of either row, then 11, then 12; the sheet's own before them
    ∷ case square fixed_rows (pos 1) (pos 3) (pos 0) (refused_by 9)
    ∷ case square fixed_rows (pos 0) (pos 1) (pos 0) (refused_by 9)
    ∷ case square fixed_rows (pos 1) (pos 2) (pos 2) (refused_by 11)
    ∷ case square fixed_rows (pos 1) (pos 2) (minus 1) (refused_by 11)
    ∷ case square fixed_rows (pos 9) (pos 1) (pos 9) (refused_by 9)
    ∷ case square (fixed_rows ++ open_row) (pos 1) (pos 2) (pos 0) (refused_by 12)
    ∷ case square (fixed_rows ++ open_row) (pos 1) (pos 2) (pos 5) (refused_by 11)
    ∷ case square (fixed_rows ++ open_row) (pos 1) (pos 4) (pos 5) (refused_by 9)
    ∷ case square (fixed_rows ++ words (1 ∷ [])) (pos 1) (pos 4) (pos 5) (refused_by 5)
    ∷ []
    )
