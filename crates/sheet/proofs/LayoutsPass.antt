-- The first whole layout in cases with numbers (document 02, T-06), as specs/LayoutPositions.antt has them: every case passes (`layouts-pass`),
-- and check 16 stands where it belongs (`limits-pass`). Assumes nothing.
use Rattle.std.specs.Prelude.{◌&&◌, [], ◌∷◌, ◌++◌, T, eqb, pos}
use Rattle.sheet.specs.Computing.{computing}
use Rattle.sheet.specs.Refusal.{refusal_layout}
use Rattle.sheet.specs.Positions.{same_table, answered, passes, all_pass, words, row, row2, boxes_from, line, room}
use Rattle.sheet.specs.LayoutPositions.{bars, open_to, stand_at, layout_positions}

pub layouts-pass : T (all_pass layout_positions)
unfolding computing same_table answered passes all_pass words row row2 boxes_from line room bars open_to stand_at layout_positions
layouts-pass = tt

-- ---- check 16: eight rows pass, nine do not; of nine rows, one of which is bad, it is 8
pub limits-pass : T (
    eqb (refusal_layout (line (2 ∷ []) 1 3) (open_to (9 ∷ 9 ∷ 9 ∷ 9 ∷ 9 ∷ 9 ∷ 9 ∷ 9 ∷ []))) 0
    && eqb (refusal_layout (line (2 ∷ []) 1 3) (open_to (9 ∷ 9 ∷ 9 ∷ 9 ∷ 9 ∷ 9 ∷ 9 ∷ 9 ∷ 9 ∷ []))) 16
    && eqb (refusal_layout (line (2 ∷ []) 1 3) (open_to (9 ∷ 9 ∷ 9 ∷ 9 ∷ 9 ∷ 9 ∷ 9 ∷ 9 ∷ []) ++ row 1 (pos 1) (pos 0))) 8
    )
unfolding computing words row boxes_from line open_to
limits-pass = tt
