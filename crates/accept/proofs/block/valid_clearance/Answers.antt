-- `accept::block::valid_clearance` meets its contract: the two tests of the definition. Assumes nothing.
use mathlib.Core.Path.{sym, ap, ◌∙◌}
use lib.IntN.{pos}
use Rattle.integers.specs.Integer.{within}
use Rattle.sheet.specs.Layout.{valid_clearance}
use Rattle.words.proofs.Reading.{read_back}
use Rattle.accept.proofs.Words.{zero-read}
use Rattle.accept.proofs.block.valid_clearance.Goals as goal

pub returns-then-is_within : goal.returns-then-is_within
unfolding valid_clearance
returns-then-is_within c =
    let in_range = c.is_within.ensures ∙ ap (within (pos 0) (pos 1000)) (read_back c.clearance_of.ensures c.clearance_of.type_inv) in
    rw (sym in_range ∙ c.if-is_within.true) (zero-read c.room_high.ensures c.room_high.type_inv)

pub returns-else-is_within : goal.returns-else-is_within
unfolding valid_clearance
returns-else-is_within c =
    let in_range = c.is_within.ensures ∙ ap (within (pos 0) (pos 1000)) (read_back c.clearance_of.ensures c.clearance_of.type_inv) in
    rw (sym in_range ∙ c.if-is_within.false) c.if-is_within.false
