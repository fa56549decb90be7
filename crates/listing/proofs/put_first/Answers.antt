-- `listing::put_first` meets its contract. Assumes nothing.
use mir.Facts.{to_z-of_z}
use Rattle.stores.proofs.Puts.{put-more}
use Rattle.listing.proofs.put_first.Goals as goal

pub returns : goal.returns
returns c =
    put-more c.put_all-p.ensures (rw (to_z-of_z c.ranges.z) at c.put_commas.ensures)
