-- The first whole layout in cases with numbers (document 02, T-06): the order of placements, and sheets on which settling leaves ranges whose
-- low ends lie in no placement. That every case passes, and where check 16 stands, is proofs/LayoutsPass.antt. Assumes nothing.
use Rattle.std.specs.Prelude.{List, [], ◌∷◌, ◌++◌, ℕ, ℤ, pos}
use Rattle.std.proofs.Math.Option.{none, some}
use Rattle.sheet.specs.Positions.{Case, settles, places_first, words, row, row2, line, room}
use Rattle.sheet.specs.Positions.{case}

-- ---- the sheets
-- k = 2: three rows of 2 by 1, apart
unfoldable pub bars : List ℤ
bars = words (2 ∷ 1 ∷ 1 ∷ 1 ∷ 0 ∷ 0 ∷ 2 ∷ 1 ∷ 1 ∷ 3 ∷ 7 ∷ 0 ∷ 0 ∷ 0 ∷ 0 ∷ [])

-- rows with shape 1: open from 0 to these ends, and standing at these places
unfoldable pub open_to : List ℕ → List ℤ
open_to [] = []
open_to (b ∷ bs) = row 1 (pos 0) (pos b) ++ open_to bs

unfoldable pub stand_at : List ℕ → List ℤ
stand_at [] = []
stand_at (z ∷ zs) = row 1 (pos z) (pos z) ++ stand_at zs

-- ---- the positions
unfoldable pub layout_positions : List Case
layout_positions =
    -- three rows of size 2: in a room of 5 there is none, though the table is settled as given; in a room of 6 they stand at 0, 2 and 4
    case (room 7 5) (open_to (3 ∷ 3 ∷ 3 ∷ [])) (settles (some (open_to (3 ∷ 3 ∷ 3 ∷ []))))
    ∷ case (room 7 5) (open_to (3 ∷ 3 ∷ 3 ∷ [])) (places_first none)
    ∷ case (room 7 6) (open_to (4 ∷ 4 ∷ 4 ∷ [])) (places_first (some (stand_at (0 ∷ 2 ∷ 4 ∷ []))))
    -- the shape's number comes before the coordinate: shape 1 at 2 precedes shape 2 at 0
    ∷ case (line (3 ∷ 1 ∷ []) 2 3) (row 3 (pos 0) (pos 6) ++ row 2 (pos 1) (pos 1))
    (places_first (some (row 1 (pos 2) (pos 2) ++ row 2 (pos 1) (pos 1))))
    -- row 1 comes before row 2
    ∷ case (line (2 ∷ []) 1 3) (row 1 (pos 1) (pos 9) ++ row 1 (pos 0) (pos 9)) (places_first (some (stand_at (1 ∷ 3 ∷ []))))
    -- row 1's low end lies in no placement, though the table is settled as given
    ∷ case (line (2 ∷ []) 1 7) (open_to (6 ∷ 3 ∷ 3 ∷ [])) (settles (some (open_to (6 ∷ 3 ∷ 3 ∷ []))))
    ∷ case (line (2 ∷ []) 1 7) (open_to (6 ∷ 3 ∷ 3 ∷ [])) (places_first (some (stand_at (4 ∷ 0 ∷ 2 ∷ []))))
    ∷ case bars (row2 1 0 6 0 0 ++ row2 1 0 2 0 0 ++ row2 1 0 2 0 0) (places_first (some (row2 1 4 4 0 0 ++ row2 1 0 0 0 0 ++ row2 1 2 2 0 0)))
    ∷ []
