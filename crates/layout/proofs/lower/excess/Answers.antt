-- `layout::lower::excess` meets its contract: the best lies inside the rest, so that its value is not below the least. Assumes nothing.
use Rattle.integers.proofs.Ints.{ints}
use Rattle.integers.proofs.Machine.{within_by}
use Rattle.layout.proofs.Halves.{least-back, least_read, on-rest, on-best, least-below, excess-by}
use Rattle.layout.proofs.lower.excess.Goals as goal

pub least_of-low-requires : goal.least_of-low-requires
least_of-low-requires c = on-rest c.args.block.now c.requires

pub least_of-high-requires : goal.least_of-high-requires
least_of-high-requires c = on-best c.args.block.now c.requires

pub gap-requires : goal.gap-requires
gap-requires c =
    let low = c.least_of-low.ensures in
    let high = c.least_of-high.ensures in (
      omega (ints, least_read low, least_read high, least-below c.args.block.now c.requires),
      within_by (least-back low) low.near,
      within_by (least-back high) high.near,
    )

pub returns : goal.returns
returns c = excess-by c.args.block.now c.requires (rw (least_read c.least_of-low.ensures, least_read c.least_of-high.ensures) at c.gap.ensures.0)
