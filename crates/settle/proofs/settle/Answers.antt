-- `settle::settle` meets its contract: it answers the refusal, or as `settle_in` does, with one of the lengths of suspects. Assumes nothing.
use mathlib.Core.Path.{◌≡◌, sym, ap, ◌∙◌}
use Rattle.std.proofs.Common.{rules}
use Rattle.std.specs.Prelude.{Ok}
use Rattle.sheet.proofs.Accepted.{accepted-block, accepted-table}
use Rattle.sheet.proofs.Answer.{answered, passed, refused}
use Rattle.settle.proofs.Answers.{left_refused, left_passed}
use Rattle.settle.proofs.settle.Goals as goal

pub returns-in_err-check : goal.returns-in_err-check
returns-in_err-check c =
    (refused _ _ _ c.check.ensures c.in_err-check.was (search rules), left_refused _ _ _ _ c.check.ensures c.in_err-check.was)

pub draw-requires : goal.draw-requires
draw-requires c = accepted-block _ _ (passed _ _ c.check.ensures c.in_ok-check.was)

pub most-requires : goal.most-requires
most-requires c =
    let none = passed _ _ c.check.ensures c.in_ok-check.was in
    ((accepted-block _ _ none).head, (accepted-table _ _ none).whole, c.draw.ensures.rules.count)

pub settle_in-found-requires : goal.settle_in-found-requires
settle_in-found-requires c =
    let none = passed _ _ c.check.ensures c.in_ok-check.was in
    (accepted-block _ _ none, accepted-table _ _ none, c.draw.ensures)

pub settle_in-found-requires-else-most-le-FEW : goal.settle_in-found-requires-else-most-le-FEW
settle_in-found-requires-else-most-le-FEW c =
    let none = passed _ _ c.check.ensures c.in_ok-check.was in
    (accepted-block _ _ none, accepted-table _ _ none, c.draw.ensures)

pub returns-then-most-le-FEW : goal.returns-then-most-le-FEW
returns-then-most-le-FEW c =
    let none = passed _ _ c.check.ensures c.in_ok-check.was in
    let left = c.settle_in-found.ensures in
    (ap Ok left.0 ∙ sym (answered _ none), left_passed _ _ none left.1)

pub returns-else-most-le-FEW : goal.returns-else-most-le-FEW
returns-else-most-le-FEW c =
    let none = passed _ _ c.check.ensures c.in_ok-check.was in
    let left = c.settle_in-found-else-most-le-FEW.ensures in
    (ap Ok left.0 ∙ sym (answered _ none), left_passed _ _ none left.1)
