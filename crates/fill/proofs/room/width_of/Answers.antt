-- `fill::room::width_of` meets its contract: the room's high end is not below its low one, and both are small. Assumes nothing.
use mathlib.Core.Path.{◌≡◌, ap, ap₂, ◌∙◌}
use lib.IntN.{ℤ, pos, nat_abs, ◌-ℤ◌}
use lib.Signed.{◌≤ℤ◌}
use mir.Facts.{to_z-of_z}
use mir.Syntax.{w64}
use mir.Val.{to_z, of_z}
use Rattle.integers.specs.Integer.{Within}
use Rattle.integers.proofs.Machine.{bnd, diff-fits, within_by, cast_ok}
use Rattle.integers.proofs.Ranges.{nat-abs}
use Rattle.sheet.specs.Fill.{room_width}
use Rattle.words.proofs.Reading.{read_back}
use Rattle.fill.proofs.Rooms.{low_near, high-near, across, across-from, across-upto}
use Rattle.fill.proofs.room.width_of.Goals as goal

high-in : (c : goal.After-room_high) → Within 1000000 c.room_high.result
high-in c = within_by c.room_high.ensures (high-near c.requires.0 c.requires.1)

low-in : (c : goal.After-room_low) → Within 1000000 c.room_low.result
low-in c = within_by c.room_low.ensures (low_near c.requires.0 c.requires.1)

pub room_high-requires : goal.room_high-requires
room_high-requires c = (c.requires.0.rule, c.requires.1)

pub room_low-requires : goal.room_low-requires
room_low-requires c = (c.requires.0.rule, c.requires.1)

pub overflow_sub-result : goal.overflow_sub-result
overflow_sub-result c = diff-fits (bnd (high-in c.before)) (bnd (low-in c)) tt

-- the difference is the room's, from 0 to 2,000,000
abbrev difference : goal.After-room_low → ℤ
difference c = to_z w64 (of_z w64 c.room_high.result) -ℤ to_z w64 (of_z w64 c.room_low.result)

is-across : (c : goal.After-room_low) → difference c ≡ across c.requires.0 c.requires.1
is-across c =
    let h = c.room_high in
    ap₂ ◌-ℤ◌ (read_back h.ensures h.type_inv) (read_back c.room_low.ensures c.room_low.type_inv)

pub overflow_cast-result : goal.overflow_cast-result
overflow_cast-result c =
    let from : pos 0 ≤ℤ difference c = rw (is-across c) (across-from c.requires.0 c.requires.1) in
    let upto : difference c ≤ℤ pos 2000000 = rw (is-across c) (across-upto c.requires.0 c.requires.1) in
    cast_ok from upto tt tt

pub returns : goal.returns
unfolding room_width
returns c =
    ap nat_abs (to_z-of_z (overflow_sub-result c) ∙ is-across c) ∙ nat-abs (across-from c.requires.0 c.requires.1)
