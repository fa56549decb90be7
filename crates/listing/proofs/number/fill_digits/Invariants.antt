-- `listing::number::fill_digits` meets its contract. The invariant: the digits of `m` before those that stand from `i` on are the digits
-- of `n`, and the buffer's length is the fuel of `decimal`. Assumes nothing.
use Rattle.std.proofs.Common.{◌≡◌, [], length, drop}
use Rattle.sheet.specs.Text.{decimal}
use Rattle.listing.proofs.number.fill_digits.Given as goal

abbrev pub invariant-loop-i : goal.invariant-loop-i
invariant-loop-i l = decimal l.i l.m (drop l.i l.buf) ≡ decimal (length l.initial.buf) l.n []
