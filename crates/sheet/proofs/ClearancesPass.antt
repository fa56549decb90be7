-- Clearances in cases with numbers (document 02, T-02), as specs/ClearancePositions.antt has them: every case passes (`clearances-pass`), and
-- so do the limits of the words (`limits-pass`). Assumes nothing.
use Rattle.std.specs.Prelude.{◌&&◌, [], ◌∷◌, T}
use Rattle.integers.specs.Integer.{minus}
use Rattle.sheet.specs.Computing.{computing}
use Rattle.sheet.specs.Positions.{same_table, same_number, same_truth, forbids_only, answered, passes, all_pass}
use Rattle.sheet.specs.Positions.{words, row, row2, boxes_from, ab_rows}
use Rattle.sheet.specs.ClearancePositions.{ab_apart, twice, room_apart, squares, squares_at, unit_apart, clearance_positions, ground_is}

-- THE POSITIONS: the checker computes that every case passes
pub clearances-pass : T (all_pass clearance_positions)
unfolding computing same_table same_number same_truth forbids_only answered passes all_pass words row row2 boxes_from ab_rows ab_apart twice
    room_apart squares squares_at unit_apart clearance_positions
clearances-pass = tt

-- ---- the limits
-- 1,000 is accepted in a named dimension; 1,001, −1, a high word and a word of a dimension that is not named are ground 7
pub limits-pass : T (ground_is 0 1 (words (1000 ∷ 0 ∷ 0 ∷ 0 ∷ [])) && ground_is 7 1 (words (1001 ∷ 0 ∷ 0 ∷ 0 ∷ []))
    && ground_is 7 1 (minus 1 ∷ words (0 ∷ 0 ∷ 0 ∷ [])) && ground_is 7 1 (words (0 ∷ 1 ∷ 0 ∷ 0 ∷ [])) && ground_is 7 1 (words (0 ∷ 0 ∷ 3 ∷ 0 ∷ []))
    && ground_is 7 1 (words (0 ∷ 0 ∷ 0 ∷ 3 ∷ [])) && ground_is 0 3 (words (0 ∷ 0 ∷ 1000 ∷ 0 ∷ [])) && ground_is 7 3 (words (0 ∷ 0 ∷ 1001 ∷ 0 ∷ [])))
unfolding computing words row2 squares squares_at ground_is
limits-pass = tt
