-- How rows stand to each other in cases with numbers (document 02, T-01), as specs/RelationPositions.antt has them: every case passes
-- (`standings-pass`). Assumes nothing.
use Rattle.std.specs.Prelude.{T}
use Rattle.sheet.specs.Computing.{computing}
use Rattle.sheet.specs.Positions.{words, row, row2, boxes_from, line}
use Rattle.sheet.specs.RelationPositions.{is_found, all_found, long_and_short, long_at, two_boxes, square, fixed_rows, open_row, standings}

-- THE CASES OF T-01: the checker computes that every one passes
pub standings-pass : T (all_found standings)
unfolding computing is_found all_found words row row2 boxes_from line long_and_short long_at two_boxes square fixed_rows open_row standings
standings-pass = tt
