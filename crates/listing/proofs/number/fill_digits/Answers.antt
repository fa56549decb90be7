-- `listing::number::fill_digits` meets its contract. The invariant: the digits of `m` before those that stand from `i` on are the digits
-- of `n`, and the buffer's length is the fuel of `decimal`. Assumes nothing.
use Rattle.std.proofs.Common.{◌≡◌, ℕ, ◌≤◌, drop, length, sym, ap, ◌∙◌, arith}
use Rattle.std.proofs.Math.Nat.{le_refl}
use Rattle.std.proofs.Math.ListN.{drop_of_length-le}
use Rattle.sheet.specs.Text.{decimal}
use Rattle.listing.proofs.Decimal.{decimal-none, digit-last, digit-more}
use Rattle.listing.proofs.number.fill_digits.Goals as goal

pub loop-i-init : goal.loop-i-init
loop-i-init c = ap (decimal _ _) (drop_of_length-le c.args.buf.now (le_refl _))

pub returns-then-m-lt10 : goal.returns-then-m-lt10
returns-then-m-lt10 c =
    let loop = c.loop-i in
    let inside : loop.i ≤ length loop.buf = omega arith in
    (omega arith, digit-last loop.buf loop.i loop.m c.loop-i-test.true inside c.if-m-lt10.true ∙ loop.invariant)

pub loop-i-preserved : goal.loop-i-preserved
loop-i-preserved c =
    let loop = c.loop-i in
    let inside : loop.i ≤ length loop.buf = omega arith in
    digit-more loop.buf loop.i loop.m c.loop-i-test.true inside c.if-m-lt10.false ∙ loop.invariant

pub returns : goal.returns
returns c =
    let loop = c.loop-i in
    let q : 0 ≡ loop.i = omega arith in
    (omega arith, sym (decimal-none loop.m loop.buf) ∙ ap (λ (k : ℕ). decimal k loop.m (drop k loop.buf)) q ∙ loop.invariant)
