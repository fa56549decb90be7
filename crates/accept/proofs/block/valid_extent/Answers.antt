-- `accept::block::valid_extent` meets its contract: the two tests of the definition. Assumes nothing.
use mathlib.Core.Path.{◌≡◌, sym, ap, ◌∙◌}
use lib.IntN.{pos}
use Rattle.integers.specs.Integer.{minus, within}
use Rattle.sheet.specs.Layout.{offset}
use Rattle.words.proofs.Reading.{read_back}
use Rattle.accept.proofs.block.valid_extent.Lts as lts
use Rattle.accept.proofs.block.valid_extent.Reads as reads
use Rattle.accept.proofs.block.valid_extent.Tie as tie
use Rattle.accept.proofs.block.valid_extent.Goals as goal

abbrev After-is_within : Type 0
After-is_within = lts.After-is_within tie.the-claims reads.Pre reads.Post

offset-in : (c : After-is_within) → let a = c.before.before.args in
    c.is_within.result ≡ within (minus 10000) (pos 10000) (offset a.block.now a.b.number a.d)
offset-in c = c.is_within.ensures ∙ ap (within (minus 10000) (pos 10000)) (read_back c.before.offset_of.ensures c.before.offset_of.type_inv)

pub returns-then-is_within : goal.returns-then-is_within
returns-then-is_within c =
    let e = c.before.before in
    rw (sym (offset-in e.before) ∙ e.if-is_within.true)
    (c.is_within-then-is_within.ensures ∙ ap (within (pos 1) (pos 10000)) (read_back c.before.size_of.ensures c.before.size_of.type_inv))

pub returns-else-is_within : goal.returns-else-is_within
returns-else-is_within c = rw (sym (offset-in c.before) ∙ c.if-is_within.false) c.if-is_within.false
