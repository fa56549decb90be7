-- `settle::first_due` meets its contract. Assumes nothing.
use mathlib.Core.Path.{◌≡◌}
use mathlib.Core.Bool.{true, false}
use Rattle.std.proofs.Common.{rules, tests}
use Rattle.std.proofs.lemmas.Iterator.{first_from_Range}
use Rattle.settle.specs.Todo.{todo}
use Rattle.settle.proofs.first_due.Goals as goal

pub returns : goal.returns
returns c =
    let due = c.args.due.now in
    first_from_Range _ _ _ _ (λ m. todo due m ≡ true) (λ m. todo due m ≡ false) c.find.ensures.ran
    (λ x q k. search (rules, tests)) (λ x q k. search (rules, tests))
