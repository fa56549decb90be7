-- `line::number::read_positive` meets its contract. Assumes nothing.
use Rattle.std.proofs.Common.{◌≤◌, ◌<◌, length, refl, ◌∙◌, arith, length-drop}
use Rattle.stores.proofs.Stores.{part-all}
use Rattle.sheet.specs.Text.{signed}
use Rattle.line.proofs.Digits.{positive-none, positive-below, positive-above, positive-long, positive-good}
use Rattle.line.proofs.number.read_positive.Goals as goal

pub returns-in_default : goal.returns-in_default
unfolding signed
returns-in_default c = rw (positive-none c.args.f.now (omega arith))

pub returns-in_default-2 : goal.returns-in_default-2
unfolding signed
returns-in_default-2 c = rw (positive-below c.args.f.now (omega arith))

pub returns-in_default-3 : goal.returns-in_default-3
unfolding signed
returns-in_default-3 c = rw (positive-above c.args.f.now (omega arith))

pub returns-then-rest-gt9 : goal.returns-then-rest-gt9
unfolding signed
returns-then-rest-gt9 c =
    let f = c.args.f.now in
    let long : 10 < length f = let l = rw (part-all f 1 refl, length-drop) at c.if-rest-gt9.true in omega arith in
    rw (positive-long f long)

pub returns : goal.returns
returns c =
    let f = c.args.f.now in
    let few : length f ≤ 10 = let l = rw (part-all f 1 refl, length-drop) at c.if-rest-gt9.false in omega arith in
    c.read_digits.ensures ∙ rw (c.from.ensures, part-all f 1 refl, positive-good f (omega arith) (omega arith) few)
