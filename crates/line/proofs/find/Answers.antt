-- `line::find` meets its contract. The invariant: a search from `i` on finds what one from `from` on does. Assumes nothing.
use Rattle.std.proofs.Common.{◌≡◌, ◌<◌, ◌≤◌, length, max, ⊎_elim, arith}
use Rattle.std.proofs.lemmas.Bool.{cases_lt}
use Rattle.std.proofs.lemmas.Bool.Decides.{nat_tests}
use Rattle.line.proofs.Parts.{until_stop, until-more, until_end}
use Rattle.line.proofs.find.Goals as goal

pub returns-then-s-i : goal.returns-then-s-i
returns-then-s-i c = omega (arith, c.loop-i.invariant, until_stop c.args.s.now c.loop-i.i c.args.b c.loop-i-test.true c.if-s-i.true)

pub loop-i-preserved : goal.loop-i-preserved
loop-i-preserved c = omega (arith, c.loop-i.invariant, until-more c.args.s.now c.loop-i.i c.args.b c.loop-i-test.true c.if-s-i.false)

pub returns : goal.returns
returns c =
    let is_max : c.max.result ≡ max c.args.from (length c.args.s.now) = grind (arith, nat_tests, c.max.ensures) in
    let end = until_end c.args.s.now c.loop-i.i c.args.b c.loop-i-test.false in
    ⊎_elim
    (λ (h : c.args.from < length c.args.s.now). omega (arith, c.loop-i.invariant))
    (λ (h : length c.args.s.now ≤ c.args.from). omega (arith, until_end c.args.s.now c.args.from c.args.b h))
    (cases_lt c.args.from (length c.args.s.now))
