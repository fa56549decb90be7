-- `accept::block::bad_head` meets its contract: a block that is too short is not read. Assumes nothing.
use borrow.Author.Tests.{lt-ltb, le-ltb}
use Rattle.sheet.specs.Refusal.{bad_head}
use Rattle.accept.proofs.block.bad_head.Goals as goal

pub returns-then-block-lt3 : goal.returns-then-block-lt3
unfolding bad_head
returns-then-block-lt3 c = rw (lt-ltb _ 3 c.if-block-lt3.true)

pub returns-else-block-lt3 : goal.returns-else-block-lt3
unfolding bad_head
returns-else-block-lt3 c = rw (le-ltb _ 3 c.before.if-block-lt3.false, c.word_in.ensures)
