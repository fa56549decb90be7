-- `region::range_ends` meets its contract: so far the field is cut to the range of each dimension passed. Assumes nothing.
use mathlib.Core.Path.{◌≡◌, ap₂, ◌∙◌}
use Prim.Native.Nat.{◌<◌}
use native.Mathlib.Omega.{arith}
use lib.IntN.{ℤ}
use lib.ListN.{length-set}
use Rattle.integers.specs.Integer.{within}
use Rattle.integers.specs.Words.{word}
use Rattle.integers.proofs.Machine.{within_by, within-weaken}
use Rattle.sheet.specs.Layout.{axes}
use Rattle.sheet.specs.Allowed.{in_ranges}
use Rattle.points.proofs.Sums.{bits_back}
use Rattle.points.proofs.Fills.{fills-ends-at, fills-ends}
use borrow.Author.Rules.{rules}
use Rattle.region.proofs.range_ends.Goals as goal

pub loop-d-init : goal.loop-d-init
loop-d-init c = (omega arith, search rules, fills-ends-at _ c.ends_at-ends.ensures)

pub loop-d-preserved : goal.loop-d-preserved
loop-d-preserved c =
    let i = c.loop-d.invariant in
    let j = c.requires.2 in
    let is-axis : c.loop-d.d < axes c.args.block.now = omega (arith, c.axes_of-k.ensures) in
    let lo = bits_back c.low_of.type_inv ∙ c.low_of.ensures in
    let hi = bits_back c.high_of.type_inv ∙ c.high_of.ensures in (
      omega arith,
      simp length-set i.1,
      fills-ends c.loop-d.ends _ i.2 i.1 c.loop-d-test.true is-axis
          (within_by lo (within-weaken (omega arith) (c.requires.1.lows _ _ j.from j.upto is-axis)))
          (within_by hi (within-weaken (omega arith) (c.requires.1.highs _ _ j.from j.upto is-axis)))
          (λ p. ap₂ (λ (x y : ℤ). within x y (word p c.loop-d.d)) lo hi),
    )

pub returns-after-loop-d : goal.returns-after-loop-d
unfolding in_ranges
returns-after-loop-d c =
    let q : c.loop-d.d ≡ axes c.args.block.now = omega (arith, c.axes_of-k.ensures, c.requires.0.head.few_axes) in
    rw q at c.loop-d.invariant.2.cuts

pub returns-then-d-k : goal.returns-then-d-k
unfolding in_ranges
returns-then-d-k c = rw (c.if-d-k.true ∙ c.axes_of-k.ensures) at c.loop-d.invariant.2.cuts
