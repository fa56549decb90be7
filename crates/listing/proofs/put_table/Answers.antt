-- `listing::put_table` meets its contract. Assumes nothing.
use mathlib.Core.List.{[], ◌∷◌}
use Prim.Native.Nat.{ℕ, ◌/◌, ◌≤◌}
use native.Mathlib.Omega.{arith}
use native.Mathlib.Nat.{le_trans, div-mul-le_self, div-le_self}
use lib.IntN.{pos}
use lib.ListN.{length}
use mir.Syntax.{w64}
use mir.Val.{SFits}
use mir.Facts.{to_z-of_z}
use Rattle.stores.proofs.Puts.{put_as, put-more}
use Rattle.sheet.specs.Layout.{table_most}
use Rattle.sheet.specs.Text.{ascii}
use Rattle.listing.proofs.Sizes.{commas-few}
use Rattle.listing.proofs.Rows.{len-some, settled_is}
use Rattle.listing.proofs.put_table.Goals as goal

pub nonzero_div-n : goal.nonzero_div-n
nonzero_div-n c = len-some _ c.row_len-len.ensures

-- a quotient of the rows' words
few : (n k : ℕ) → n ≤ table_most → n / k ≤ table_most
few n k h = le_trans (div-le_self n k) h

fits : (n k : ℕ) → n ≤ table_most → SFits w64 (pos (n / k))
fits n k h = let g = few n k h in record { sfits = omega arith }

pub overflow_cast-n : goal.overflow_cast-n
overflow_cast-n c = fits _ c.row_len-len.result c.requires

pub put_rows-requires : goal.put_rows-requires
put_rows-requires c =
    let n = length c.args.table.now in
    let len = c.row_len-len.result in
    let size = commas-few (pos (n / len) ∷ []) in
    let put = rw (to_z-of_z (fits n len c.requires)) at c.put_first-p.ensures in
    record {
      some = len-some _ c.row_len-len.ensures;
      early = omega (arith, put.past);
      inside = div-mul-le_self n len;
      table_short = c.requires;
      few = few n len c.requires;
    }

pub returns : goal.returns
unfolding ascii
returns c =
    let put = rw (to_z-of_z (fits (length c.args.table.now) c.row_len-len.result c.requires)) at c.put_first-p.ensures in
    put_as (settled_is c.args.block.now c.args.table.now c.row_len-len.ensures c.requires) (put-more put c.put_rows.ensures)
