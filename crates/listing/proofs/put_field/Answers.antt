-- `listing::put_field` meets its contract. Assumes nothing.
use mir.Facts.{to_z-of_z}
use Rattle.stores.proofs.Puts.{put_one, put-more}
use Rattle.listing.proofs.put_field.Goals as goal

pub returns : goal.returns
returns c =
    put-more (put_one c.put.ensures) (rw (to_z-of_z c.ranges.w) at c.put_number.ensures)
