-- `listing::put_commas` meets its contract. The invariant: the words from `w` on are left to put. Assumes nothing.
use Rattle.std.proofs.Common.{sym, arith, rules, pos, get_or, w64, FitsSigned}
use Rattle.std.proofs.Math.Facts.{to_z-of_z}
use Rattle.stores.proofs.Puts.{left-more, left-done, put_as, put_one}
use Rattle.listing.proofs.Sizes.{shown-few}
use Rattle.listing.proofs.Rows.{commas-more, commas-end}
use Rattle.listing.proofs.put_commas.Goals as goal

pub loop-w-preserved : goal.loop-w-preserved
loop-w-preserved c =
    let words = c.args.words.now in
    let i = c.loop-w.w-index in
    let f : FitsSigned w64 (get_or words i (pos 0)) = search rules in
    let put = rw (to_z-of_z f) at c.put_field-p.ensures in
    let size = shown-few (get_or words i (pos 0)) in
    (left-more c.loop-w.invariant.0 (commas-more words i c.loop-w-test.true) put, omega (arith, put.past))

pub returns : goal.returns
returns c =
    let end = commas-end c.args.words.now c.loop-w.w-index c.loop-w-test.false in
    left-done c.loop-w.invariant.0 (put_as (sym end) (put_one c.put.ensures))
