-- `accept::block::valid_box` meets its contract: the two tests of the definition. Assumes nothing.
use mathlib.Core.Path.{◌≡◌, sym, ap, ◌∙◌}
use lib.IntN.{pos}
use Rattle.integers.specs.Integer.{within}
use Rattle.sheet.specs.Layout.{shape_of, valid_box}
use Rattle.words.proofs.Reading.{read_back}
use Rattle.accept.proofs.block.valid_box.Lts as lts
use Rattle.accept.proofs.block.valid_box.Reads as reads
use Rattle.accept.proofs.block.valid_box.Tie as tie
use Rattle.accept.proofs.block.valid_box.Goals as goal

abbrev After-is_within : Type 0
After-is_within = lts.After-is_within tie.the-claims reads.Pre reads.Post

shape-in : (c : After-is_within) → let a = c.before.before.args in
    c.is_within.result ≡ within (pos 1) (pos 32) (shape_of a.block.now a.b.number)
shape-in c = c.is_within.ensures ∙ ap (within (pos 1) (pos 32)) (read_back c.before.shape_of.ensures c.before.shape_of.type_inv)

pub returns-then-is_within : goal.returns-then-is_within
unfolding valid_box
returns-then-is_within c = rw (sym (shape-in c.before.before) ∙ c.before.if-is_within.true) c.valid_extents.ensures

pub returns-else-is_within : goal.returns-else-is_within
unfolding valid_box
returns-else-is_within c = rw (sym (shape-in c.before) ∙ c.if-is_within.false) c.if-is_within.false
