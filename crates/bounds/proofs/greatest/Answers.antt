-- `bounds::greatest` meets its contract. Assumes nothing.
use mir.Facts.{to_z-of_z}
use Rattle.bounds.specs.Search.{extreme_of}
use Rattle.bounds.proofs.greatest.Goals as goal

pub returns : goal.returns
unfolding extreme_of
returns c = simp (to_z-of_z c.ranges.row, to_z-of_z c.ranges.shape, to_z-of_z c.ranges.dimension) at c.bound.ensures
