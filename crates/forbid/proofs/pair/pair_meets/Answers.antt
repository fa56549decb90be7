-- `pair::pair_meets` meets its contract: so far the field is cut in each dimension passed, and a dimension that clears the row's range clears
-- every point of its ranges. Assumes nothing.
use mathlib.Core.Path.{sym, ap₂, ◌∙◌}
use native.Mathlib.Omega.{arith}
use lib.IntN.{ℤ}
use Rattle.integers.specs.Integer.{within}
use Rattle.integers.specs.Words.{word}
use Rattle.integers.proofs.Below.{all-at}
use Rattle.sheet.specs.Layout.{low, high}
use Rattle.sheet.specs.Allowed.{in_ranges}
use Rattle.sheet.proofs.Forbidden.{axis}
use Rattle.points.proofs.Sums.{bits_back}
use Rattle.forbid.proofs.Solids.{sides-none, sides-at, sides-skip, sides-set, sides-all}
use Rattle.forbid.proofs.pair.pair_meets.Goals as goal
use Rattle.forbid.proofs.pair.pair_meets.Goals.{then-names_dim+else-is_apart, else-names_dim}

pub loop-d-init : goal.loop-d-init
loop-d-init c = rw c.field-area.ensures (sides-none _ _ _ _)

pub low_of-first-requires : goal.low_of-first-requires
low_of-first-requires c = (c.requires.1, axis c.args.block.now (omega arith))

pub high_of-last-requires : goal.high_of-last-requires
high_of-last-requires c = (c.requires.1, axis c.args.block.now (omega arith))

pub returns-then-is_apart : goal.returns-then-is_apart
unfolding in_ranges
returns-then-is_apart c =
    let a = c.args in
    let d = c.loop-d.d in
    let row = a.i.number in
    record {
      clear = λ p inside h. c.is_apart.ensures c.if-is_apart.true (word p d)
          (sides-at _ _ _ _ p (omega arith) (sym c.names_dim.ensures ∙ c.if-names_dim.true) c.interval_of-x.ensures h)
          (ap₂ (λ (y z : ℤ). within y z (word p d)) (bits_back c.low_of-first.type_inv ∙ c.low_of-first.ensures)
          (bits_back c.high_of-last.type_inv ∙ c.high_of-last.ensures)
          ∙ all-at (λ m. within (low a.block.now a.table.now row m) (high a.block.now a.table.now row m) (word p m)) inside d
          (axis a.block.now (omega arith)));
      area = tt;
    }

pub loop-d-preserved : goal.loop-d-preserved
loop-d-preserved c =
    let s = c.loop-d.invariant in
    elim c.if-names_dim.branch [
      | then-names_dim+else-is_apart w ↦ rw w.area-is (sides-set _ _ _ _ s c.requires.0.accepted (omega arith)
          (sym c.names_dim.ensures ∙ w.if-names_dim.true) w.interval_of-x.ensures)
      | else-names_dim w ↦ rw w.area-is (sides-skip _ _ _ _ s (sym c.names_dim.ensures ∙ w.if-names_dim.false))
    ]

pub returns : goal.returns
returns c = record { clear = tt; area = sides-all _ _ _ _ (omega arith) c.loop-d.invariant }
