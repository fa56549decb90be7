-- `listing::put_row` meets its contract. Assumes nothing.
use native.Mathlib.Omega.{arith}
use lib.IntN.{pos}
use Rattle.stores.proofs.Puts.{put-more}
use Rattle.listing.proofs.Sizes.{shown-few}
use Rattle.listing.proofs.put_row.Goals as goal

pub put_commas-requires : goal.put_commas-requires
put_commas-requires c =
    let size = shown-few (pos c.args.m) in omega (arith, c.put_natural-p.ensures.past)

pub returns : goal.returns
returns c =
    put-more c.put_natural-p.ensures c.put_commas.ensures
