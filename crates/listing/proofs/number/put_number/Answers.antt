-- `listing::number::put_number` meets its contract. Assumes nothing.
use Rattle.std.proofs.Common.{◌≡◌, sym, nat_abs}
use Rattle.std.proofs.Math.Facts.{to_z-of_z}
use Rattle.integers.proofs.Ints.{ints}
use Rattle.stores.proofs.Puts.{put_as, put_one, put-more}
use Rattle.listing.proofs.Decimal.{shown-below, shown-above}
use Rattle.listing.proofs.number.put_number.Goals as goal

pub returns-then-v-lt0 : goal.returns-then-v-lt0
returns-then-v-lt0 c =
    let z = c.args.v in
    let f = c.ranges.v in
    let size : c.unsigned_abs-n.result ≡ nat_abs z = rw (to_z-of_z f) at c.unsigned_abs-n.ensures.value in
    let minus = c.if-v-lt0.true in
    put_as (sym (shown-below z (omega ints))) (put-more (put_one c.put.ensures) (rw size at c.put_natural.ensures))

pub returns : goal.returns
returns c =
    let z = c.args.v in
    let f = c.ranges.v in
    let size : c.unsigned_abs-n.result ≡ nat_abs z = rw (to_z-of_z f) at c.unsigned_abs-n.ensures.value in
    put_as (sym (shown-above z (omega ints))) (rw size at c.put_natural-2.ensures)
