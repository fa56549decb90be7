-- Rows with several shapes in cases with numbers (document 02, T-05), as specs/SeveralPositions.antt has them: every case passes
-- (`several-pass`), and these numbers alone are forbidden (`spans-pass`). Assumes nothing.
use Rattle.std.specs.Prelude.{◌&&◌, T, pos}
use Rattle.sheet.specs.Computing.{computing}
use Rattle.sheet.specs.Positions.{same_table, same_number, same_truth, forbids_only, answered, passes, all_pass, words, row, row2, boxes_from, line}
use Rattle.sheet.specs.SeveralPositions.{boxed, either, unit_apart, shifted, gapped, beside, own_boxes, two_rules, three_apart, several_positions}
use Rattle.sheet.specs.SeveralPositions.{spans}

pub several-pass : T (all_pass several_positions)
unfolding computing same_table same_number same_truth answered passes all_pass words row row2 boxes_from line boxed either unit_apart
    gapped own_boxes two_rules three_apart several_positions
several-pass = tt

-- [0, 2) or [1, 3): only 1; [0, 1) or [1, 2): none
pub spans-pass : T (spans shifted (pos 1) (pos 1) && spans beside (pos 1) (pos 0))
unfolding computing same_truth forbids_only words row boxed either shifted beside spans
spans-pass = tt
