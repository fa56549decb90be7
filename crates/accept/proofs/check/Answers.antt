-- `accept::check` meets its contract: the checks run in the definition's order, and each leans on those before it. Assumes nothing.
use mathlib.Core.List.{List}
use lib.IntN.{ℤ}
use Rattle.sheet.specs.Refusal.{ground, grounds}
use Rattle.accept.proofs.Chain.{refusal-from2, refused-first, refused-last, passed-last}
use Rattle.accept.proofs.Stages.{Passed2, Passed3, Passed4, Passed5, Passed6, Passed7, past2, past3, past4, past5, past6, past7}
use Rattle.accept.proofs.check.Lts as lts
use Rattle.accept.proofs.check.Reads as reads
use Rattle.accept.proofs.check.Tie as tie
use Rattle.accept.proofs.check.Goals as goal

abbrev Start : Type 0
Start = lts.Start tie.the-claims reads.Pre reads.Post

-- P of the block and the table that were lent
abbrev Of : (List ℤ → List ℤ → Type 0) → Start → Type 0
Of P s = P s.args.block.now s.args.table.now

-- ---- past each check: where the function started, and what is known of its sheet
abbrev start2 : goal.Else-bad_head → Start
start2 c = c.before.before

abbrev start3 : goal.Else-bad_counts → Start
start3 c = start2 c.before.before

abbrev start4 : goal.Else-bad_block_length → Start
start4 c = start3 c.before.before

abbrev start5 : goal.Else-bad_table_length → Start
start5 c = start4 c.before.before

abbrev start6 : goal.Else-bad_box → Start
start6 c = start5 c.before.before

abbrev start7 : goal.Else-bad_rule → Start
start7 c = start6 c.before.before

passed2 : (c : goal.Else-bad_head) → Of Passed2 (start2 c)
passed2 c = past2 c.before.bad_head.ensures c.if-bad_head.false

passed3 : (c : goal.Else-bad_counts) → Of Passed3 (start3 c)
passed3 c = past3 (passed2 c.before.before) c.before.bad_counts.ensures c.if-bad_counts.false

passed4 : (c : goal.Else-bad_block_length) → Of Passed4 (start4 c)
passed4 c = past4 (passed3 c.before.before) c.before.bad_block_length.ensures c.if-bad_block_length.false

passed5 : (c : goal.Else-bad_table_length) → Of Passed5 (start5 c)
passed5 c = past5 (passed4 c.before.before) c.before.bad_table_length.ensures c.if-bad_table_length.false

passed6 : (c : goal.Else-bad_box) → Of Passed6 (start6 c)
passed6 c = past6 (passed5 c.before.before) c.before.bad_box.ensures c.if-bad_box.false

passed7 : (c : goal.Else-bad_rule) → Of Passed7 (start7 c)
passed7 c = past7 (passed6 c.before.before) c.before.bad_rule.ensures c.if-bad_rule.false

pub returns-then-bad_head : goal.returns-then-bad_head
unfolding ground grounds
returns-then-bad_head c = refused-first 1 _ (refusal-from2 _ _) c.before.bad_head.ensures c.if-bad_head.true

pub bad_counts-requires : goal.bad_counts-requires
bad_counts-requires c = (passed2 c).head

pub returns-then-bad_counts : goal.returns-then-bad_counts
unfolding ground grounds
returns-then-bad_counts c = refused-first 2 _ (passed2 c.before.before).rest c.before.bad_counts.ensures c.if-bad_counts.true

pub bad_block_length-requires : goal.bad_block_length-requires
bad_block_length-requires c = ((passed3 c).head, (passed3 c).counts)

pub returns-then-bad_block_length : goal.returns-then-bad_block_length
unfolding ground grounds
returns-then-bad_block_length c = refused-first 3 _ (passed3 c.before.before).rest c.before.bad_block_length.ensures c.if-bad_block_length.true

pub bad_table_length-requires : goal.bad_table_length-requires
bad_table_length-requires c = (passed4 c).head

pub returns-then-bad_table_length : goal.returns-then-bad_table_length
unfolding ground grounds
returns-then-bad_table_length c = refused-first 4 _ (passed4 c.before.before).rest c.before.bad_table_length.ensures c.if-bad_table_length.true

pub bad_box-requires : goal.bad_box-requires
bad_box-requires c = (passed5 c).head

pub returns-then-bad_box : goal.returns-then-bad_box
unfolding ground grounds
returns-then-bad_box c = refused-first 5 _ (passed5 c.before.before).rest c.before.bad_box.ensures c.if-bad_box.true

pub bad_rule-requires : goal.bad_rule-requires
bad_rule-requires c = ((passed6 c).head, (passed6 c).whole)

pub returns-then-bad_rule : goal.returns-then-bad_rule
unfolding ground grounds
returns-then-bad_rule c = refused-first 6 _ (passed6 c.before.before).rest c.before.bad_rule.ensures c.if-bad_rule.true

pub bad_row-requires : goal.bad_row-requires
bad_row-requires c = ((passed7 c).head, (passed7 c).whole, (passed7 c).boxes)

pub returns-then-bad_row : goal.returns-then-bad_row
unfolding ground grounds
returns-then-bad_row c = refused-last 7 (passed7 c.before.before).rest c.before.bad_row.ensures c.if-bad_row.true

pub returns : goal.returns
returns c = passed-last 8 (passed7 c.before.before).rest c.before.bad_row.ensures c.if-bad_row.false
