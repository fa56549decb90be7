-- `pair::interval_of` meets its contract: the interval begins by the other row's highest place and ends by its lowest. Assumes nothing.
use mathlib.Core.Path.{◌∙◌}
use native.Mathlib.Omega.{arith}
use Rattle.integers.proofs.Machine.{within_by}
use Rattle.sheet.proofs.Forbidden.{axis}
use Rattle.points.proofs.Sums.{bits_back}
use Rattle.forbid.specs.Interval.{forbid_first, forbid_last}
use Rattle.forbid.proofs.pair.interval_of.Goals as goal

pub extent_of-own-requires : goal.extent_of-own-requires
extent_of-own-requires c = (c.requires.0.own_few, omega (arith, c.requires.1, c.requires.0.accepted.head.few_dims))

pub extent_of-other-requires : goal.extent_of-other-requires
extent_of-other-requires c = (c.requires.0.other_few, omega (arith, c.requires.1, c.requires.0.accepted.head.few_dims))

pub low_of-low-requires : goal.low_of-low-requires
low_of-low-requires c =
    let w = c.requires.0 in
    (w.other_row, axis c.args.block.now c.requires.1)

pub high_of-high-requires : goal.high_of-high-requires
high_of-high-requires c =
    let w = c.requires.0 in
    (w.other_row, axis c.args.block.now c.requires.1)

pub clearance_of-clearance-requires : goal.clearance_of-clearance-requires
clearance_of-clearance-requires c = (c.requires.0.rule, c.requires.1)

pub overlapping-requires : goal.overlapping-requires
overlapping-requires c =
    let w = c.requires.0 in
    let j = w.other_row in
    let h = c.requires.1 in
    let d = axis c.args.block.now h in
    let low = within_by (bits_back c.low_of-low.type_inv ∙ c.low_of-low.ensures) (w.table.lows _ _ j.from j.upto d) in
    let high = within_by (bits_back c.high_of-high.type_inv ∙ c.high_of-high.ensures) (w.table.highs _ _ j.from j.upto d) in
    let near = within_by (bits_back c.clearance_of-clearance.type_inv ∙ c.clearance_of-clearance.ensures)
    (w.accepted.clearances _ _ w.rule.below h) in
    record {
      own_start = within_by c.extent_of-own.ensures.0 (w.own.starts _ h);
      own_end = within_by c.extent_of-own.ensures.1 (w.own.ends _ h);
      other_start = within_by c.extent_of-other.ensures.0 (w.other.starts _ h);
      other_end = within_by c.extent_of-other.ensures.1 (w.other.ends _ h);
      lowest = search;
      highest = search;
      clearance = search;
    }

pub returns : goal.returns
unfolding forbid_first forbid_last
returns c =
    let e = c.overlapping.ensures in
    let q = bits_back c.clearance_of-clearance.type_inv ∙ c.clearance_of-clearance.ensures in
    record {
      from = e.0 ∙ rw (q, bits_back c.high_of-high.type_inv, c.high_of-high.ensures, c.extent_of-own.ensures.1, c.extent_of-other.ensures.0);
      to = e.1 ∙ rw (q, bits_back c.low_of-low.type_inv, c.low_of-low.ensures, c.extent_of-own.ensures.0, c.extent_of-other.ensures.1);
      from_within = e.2;
      to_within = e.3;
    }
