-- `listing::put_refused` meets its contract. Assumes nothing.
use mir.Facts.{to_z-of_z}
use Rattle.sheet.specs.Text.{ascii}
use Rattle.listing.proofs.put_refused.Goals as goal

pub returns : goal.returns
unfolding ascii
returns c = rw (to_z-of_z c.ranges.refusal) at c.put_first.ensures
