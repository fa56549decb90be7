-- The fill of a room in cases with numbers (document 02, T-03), as specs/FillPositions.antt has them: every case passes (`fills-pass`), and so
-- do the limits of a room's cells (`limits-pass`) and the figure at and beside a half (`figures-pass`). Assumes nothing.
use Rattle.std.specs.Prelude.{◌&&◌, T, eqb}
use Rattle.sheet.specs.Computing.{computing}
use Rattle.sheet.specs.Refusal.{bad_cells}
use Rattle.sheet.specs.Fill.{permille}
use Rattle.sheet.specs.Positions.{words, row, row2}
use Rattle.sheet.specs.FillPositions.{is_answered, all_answered, with_rules, room_for, room_beside, placed}
use Rattle.sheet.specs.FillPositions.{corridor, solid, largest, fills, is_counted}

-- THE CASES OF T-03: the checker computes that every one passes
pub fills-pass : T (all_answered fills)
unfolding computing is_answered all_answered words row row2 with_rules room_for room_beside placed corridor solid largest fills
fills-pass = tt

-- ---- the limits: 4,096 cells are counted, 4,097 are not
pub limits-pass : T (is_counted 64 64 && is_counted 1 4096 && bad_cells (room_for 1 17 241) 0 && bad_cells (room_for 1 0 4096) 0)
unfolding computing words with_rules room_for is_counted
limits-pass = tt

-- ---- the figure: a half goes up, what lies beside it to the nearer number
pub figures-pass : T (eqb (permille 1 16) 63 && eqb (permille 5 16) 313 && eqb (permille 1 80) 13 && eqb (permille 1 2000) 1
    && eqb (permille 3 2000) 2 && eqb (permille 1 3) 333 && eqb (permille 2 3) 667 && eqb (permille 1 4096) 0 && eqb (permille 3 4096) 1
    && eqb (permille 4095 4096) 1000 && eqb (permille 4096 4096) 1000 && eqb (permille 0 7) 0)
unfolding permille computing
figures-pass = tt
