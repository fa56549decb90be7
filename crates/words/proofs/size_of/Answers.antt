-- `words::size_of` meets its contract: the box lies whole in the block. Assumes nothing.
use mathlib.Core.Path.{◌∙◌}
use native.Mathlib.Omega.{arith}
use Rattle.sheet.specs.Layout.{size}
use Rattle.words.proofs.Ends.{box-ends}
use Rattle.words.proofs.Reading.{read_back}
use Rattle.words.proofs.size_of.Goals as goal

pub overflow_add-b : goal.overflow_add-b
overflow_add-b c = omega (arith, box-ends c.requires.0)

pub overflow_add-b-2 : goal.overflow_add-b-2
overflow_add-b-2 c = omega (arith, c.dims_of.ensures, box-ends c.requires.0)

pub overflow_add-b-3 : goal.overflow_add-b-3
overflow_add-b-3 c = omega (arith, c.dims_of.ensures, box-ends c.requires.0)

pub word_at-requires : goal.word_at-requires
word_at-requires c = omega (arith, c.dims_of.ensures, box-ends c.requires.0)

pub returns : goal.returns
unfolding size
returns c = read_back c.word_at.ensures c.word_at.type_inv ∙ rw (c.requires.0.stands, c.dims_of.ensures)
