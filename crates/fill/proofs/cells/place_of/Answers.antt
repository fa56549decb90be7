-- `fill::cells::place_of` meets its contract: the box does not start before the room's low corner, and the sums are small. Assumes nothing.
use mathlib.Core.Path.{◌≡◌, ap, ap₂, ◌∙◌}
use lib.IntN.{ℤ, pos, nat_abs, ◌+ℤ◌, ◌-ℤ◌}
use lib.Signed.{◌≤ℤ◌}
use mir.Facts.{to_z-of_z}
use mir.Syntax.{w64}
use mir.Val.{to_z, of_z}
use Rattle.integers.specs.Integer.{Within}
use Rattle.integers.proofs.Machine.{bnd, ◌+ʷ◌, sum_fits, diff-fits, within_by, cast_ok, abs-pos}
use Rattle.sheet.proofs.Forbidden.{axis}
use Rattle.words.proofs.Reading.{read_back}
use Rattle.fill.proofs.Bricks.{at-near, offset_near, corner-near, away, away-from, away-upto, away-place}
use Rattle.fill.proofs.cells.place_of.Goals as goal

low-in : (c : goal.After-low_of) → Within 1000000 c.low_of.result
low-in c = within_by c.low_of.ensures (at-near c.requires.0 c.requires.1)

offset-in : (c : goal.After-offset_of) → Within 10000 c.offset_of.result
offset-in c = within_by c.offset_of.ensures (offset_near c.requires.0 c.requires.1)

corner-in : (c : goal.After-room_low) → Within 1000000 c.room_low.result
corner-in c = within_by c.room_low.ensures (corner-near c.requires.0 c.requires.1)

pub low_of-requires : goal.low_of-requires
low_of-requires c = (c.requires.0.of.row, axis _ c.requires.1)

pub offset_of-requires : goal.offset_of-requires
offset_of-requires c = (c.requires.0.box, c.requires.1)

pub overflow_add-start : goal.overflow_add-start
overflow_add-start c = sum_fits (bnd (low-in c.before)) (bnd (offset-in c)) tt

pub room_low-requires : goal.room_low-requires
room_low-requires c = (c.requires.0.of.counting.room.rule, c.requires.1)

pub overflow_sub-result : goal.overflow_sub-result
overflow_sub-result c = diff-fits (bnd (low-in c.before.before) +ʷ bnd (offset-in c.before)) (bnd (corner-in c)) tt

-- the difference is the box's way from the corner
abbrev difference : goal.After-room_low → ℤ
difference c =
    to_z w64 (of_z w64 (to_z w64 (of_z w64 c.low_of.result) +ℤ to_z w64 (of_z w64 c.offset_of.result)))
    -ℤ to_z w64 (of_z w64 c.room_low.result)

is-away : (c : goal.After-room_low) → difference c ≡ away c.requires.0 c.requires.1
is-away c =
    let l = c.low_of in
    let o = c.offset_of in
    ap₂ ◌-ℤ◌ (to_z-of_z (overflow_add-start c.before) ∙ ap₂ ◌+ℤ◌ (read_back l.ensures l.type_inv) (read_back o.ensures o.type_inv))
    (read_back c.room_low.ensures c.room_low.type_inv)

pub overflow_cast-result : goal.overflow_cast-result
overflow_cast-result c =
    let from : pos 0 ≤ℤ difference c = rw (is-away c) (away-from c.requires.0 c.requires.1) in
    let upto : difference c ≤ℤ pos 2010000 = rw (is-away c) (away-upto c.requires.0 c.requires.1) in
    cast_ok from upto tt tt

pub returns : goal.returns
returns c =
    let e = to_z-of_z (overflow_sub-result c) ∙ is-away c in
    away-place c.requires.0 c.requires.1 (ap (λ (z : ℤ). pos (nat_abs z)) e ∙ abs-pos (away-from c.requires.0 c.requires.1))
