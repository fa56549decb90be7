-- Document 01's marked positions, the sheet of its text program, one that a single pass over the rows gets wrong, and the marked position of
-- document 02's T-05, as specs/Positions.antt has them: every case passes (`positions-pass`). Assumes nothing.
use Rattle.std.specs.Prelude.{T}
use Rattle.sheet.specs.Computing.{computing}
use Rattle.sheet.specs.Positions.{same_table, same_number, same_truth, forbids_only, count_ranges, count_rows, placements_by, answered, passes}
use Rattle.sheet.specs.Positions.{all_pass, words, row, row2, boxes_from, line, room, ab, ab_rows, three_rows, text_sheet, catalogue, placed}
use Rattle.sheet.specs.Positions.{positions}

-- THE MARKED POSITIONS: the checker computes that every case passes
pub positions-pass : T (all_pass positions)
unfolding computing same_table same_number same_truth forbids_only count_ranges count_rows placements_by answered passes all_pass words
    row row2 boxes_from line room ab ab_rows three_rows text_sheet catalogue placed positions
positions-pass = tt
