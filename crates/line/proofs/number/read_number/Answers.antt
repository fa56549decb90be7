-- `line::number::read_number` meets its contract, by the field's first byte. Assumes nothing.
use Rattle.std.proofs.Common.{ℕ, drop, List, refl, pos, sym, ap, ◌∙◌, arith, rules}
use Rattle.stores.proofs.Stores.{part-all}
use Rattle.sheet.specs.Text.{positive, signed}
use Rattle.line.specs.Answers.{number_of}
use Rattle.line.proofs.Digits.{positive-small}
use Rattle.line.proofs.Numbers.{number-zero, number-minus, number-plain, number-found, signed-some, negated, minus_is, minus-fits}
use Rattle.line.proofs.number.read_number.Goals as goal

pub map-requires : goal.map-requires
map-requires c = λ v is _ _.
    let p = signed-some _ (number-found _ (sym c.read_positive.ensures ∙ is)) in
    let h = positive-small _ p.n p.is in
    rw (minus_is p.word h) (minus-fits h)

pub returns-in-48 : goal.returns-in-48
returns-in-48 c = ap number_of (sym (number-zero c.args.f.now (omega arith) (omega arith)))

pub returns-in-45 : goal.returns-in-45
returns-in-45 c =
    let s = c.args.f.now in
    let is = c.read_positive.ensures ∙ ap (λ (l : List ℕ). number_of (signed (λ n. pos n) (positive l))) (part-all s 1 refl) in
    negated (positive (drop 1 s)) (positive-small (drop 1 s)) is c.map.ensures.cases (λ z y k. search rules)
    ∙ ap number_of (sym (number-minus s (grind arith) (grind arith)))

pub returns-in_default : goal.returns-in_default
returns-in_default c =
    c.read_positive-in_default.ensures ∙ ap number_of (sym (number-plain c.args.f.now (grind arith) (grind arith)))
