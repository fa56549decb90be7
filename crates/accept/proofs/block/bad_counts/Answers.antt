-- `accept::block::bad_counts` meets its contract: check 2 has left three words. Assumes nothing.
use native.Mathlib.Omega.{arith}
use Rattle.sheet.specs.Refusal.{bad_counts}
use Rattle.accept.proofs.Turns.{fails_by, passes-by}
use Rattle.accept.proofs.Opening.{head-long}
use Rattle.accept.proofs.block.bad_counts.Goals as goal

pub word_in-requires : goal.word_in-requires
word_in-requires c = omega (arith, head-long _ c.requires)

pub word_in-requires-else-not-word_in : goal.word_in-requires-else-not-word_in
word_in-requires-else-not-word_in c = omega (arith, head-long _ c.before.before.requires)

pub returns-then-not-word_in : goal.returns-then-not-word_in
unfolding bad_counts
returns-then-not-word_in c = rw (c.before.word_in.ensures, fails_by c.before.word_in.ensures c.if-not-word_in.true-raw)

pub returns-else-not-word_in : goal.returns-else-not-word_in
unfolding bad_counts
returns-else-not-word_in c = rw (c.word_in-else-not-word_in.ensures, passes-by c.before.before.word_in.ensures c.before.if-not-word_in.false-raw)
