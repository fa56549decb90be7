-- `relate::extent::of_box` meets its contract: the sums are small. Assumes nothing.
use mathlib.Core.Path.{ap₂, ◌∙◌}
use lib.IntN.{◌+ℤ◌}
use Rattle.integers.specs.Integer.{Within}
use Rattle.integers.proofs.Machine.{bnd, ◌+ʷ◌, sum_fits, exact, within_by}
use Rattle.sheet.specs.Placement.{box_start, box_end}
use Rattle.sheet.proofs.Forbidden.{axis}
use Rattle.relate.proofs.extent.of_box.Goals as goal

at-near : (c : goal.After-low_of-at) → Within 1000000 c.low_of-at.result
at-near c =
    let w = c.requires.0 in
    within_by c.low_of-at.ensures (w.table.lows _ _ w.row.from w.row.upto (axis _ w.dim))

offset_near : (c : goal.After-offset_of) → Within 10000 c.offset_of.result
offset_near c =
    within_by c.offset_of.ensures (c.requires.0.accepted.offsets _ _ c.requires.1.below c.requires.0.dim)

size-near : (c : goal.After-size_of) → Within 10000 c.size_of.result
size-near c =
    within_by c.size_of.ensures (c.requires.0.accepted.sizes _ _ c.requires.1.below c.requires.0.dim)

pub low_of-at-requires : goal.low_of-at-requires
low_of-at-requires c = (c.requires.0.row, axis _ c.requires.0.dim)

pub offset_of-requires : goal.offset_of-requires
offset_of-requires c = (c.requires.1, c.requires.0.dim)

pub overflow_add-start : goal.overflow_add-start
overflow_add-start c = sum_fits (bnd (at-near c.before)) (bnd (offset_near c)) tt

pub size_of-requires : goal.size_of-requires
size_of-requires c = (c.requires.1, c.requires.0.dim)

pub overflow_add-end : goal.overflow_add-end
overflow_add-end c = sum_fits (bnd (at-near c.before.before) +ʷ bnd (offset_near c.before)) (bnd (size-near c)) tt

pub returns : goal.returns
unfolding box_start box_end
returns c =
    let o = c.before in
    let l = o.before in
    let start = ap₂ ◌+ℤ◌ l.low_of-at.ensures o.offset_of.ensures in (
      exact (bnd (at-near l) +ʷ bnd (offset_near o)) tt ∙ start,
      exact (bnd (at-near l) +ʷ bnd (offset_near o) +ʷ bnd (size-near c)) tt ∙ ap₂ ◌+ℤ◌ start c.size_of.ensures,
    )
