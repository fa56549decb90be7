-- `narrow_in` meets its contract: the step says whether there is a place. Assumes nothing.
use mathlib.Core.Path.{◌∙◌}
use Rattle.sheet.specs.Narrow.{narrow_of}
use Rattle.narrow.proofs.Answers.{is_place}
use Rattle.narrow.proofs.narrow_in.Goals as goal

pub returns-clause-found : goal.returns-clause-found
returns-clause-found g c =
    c.ne.ensures ∙ is_place c.args.table.now (narrow_of c.args.block.now c.args.table.now c.args.i.number) c.narrow_row.ensures.0
