-- `nearby::region_at` meets its contract: an area that a suspect gives is all forbidden, and is remembered. Assumes nothing.
use Rattle.nearby.proofs.Remembered.{filled-region, listed-remembered}
use Rattle.nearby.proofs.region_at.Goals as goal

pub returns : goal.returns
returns c =
    (c.in_ok-area.ensures, listed-remembered c.requires.listed (filled-region c.in_ok-area.ensures) c.remember.ensures)
