-- `accept::range::valid_set` meets its contract: the set is tested as it was passed. Assumes nothing.
use mathlib.Core.Path.{ap₂, ◌∙◌}
use lib.IntN.{pos}
use mir.Facts.{to_z-of_z}
use Rattle.integers.specs.Integer.{within}
use Rattle.words.proofs.Reading.{read_back}
use Rattle.accept.proofs.range.valid_set.Goals as goal

pub returns : goal.returns
returns c =
    let f = c.before.full_set in
    c.is_within.ensures ∙ ap₂ (within (pos 1)) (read_back f.ensures f.type_inv) (to_z-of_z c.before.before.ranges.set)
