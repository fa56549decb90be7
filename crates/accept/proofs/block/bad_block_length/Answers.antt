-- `accept::block::bad_block_length` meets its contract: the counts are small, so that the length fits. Assumes nothing.
use Prim.Native.Nat.{◌+◌, ◌*◌, ◌≤◌}
use native.Mathlib.Omega.{arith}
use Rattle.sheet.proofs.Accepted.{counted}
use Rattle.sheet.specs.Layout.{dims, boxes, rules, block_length, box_len, rule_len}
use Rattle.sheet.specs.Refusal.{bad_block_length}
use Rattle.accept.proofs.Opening.{opening, few-dims, box-words, rule-words}
use Rattle.accept.proofs.block.bad_block_length.Goals as goal

small : (c : goal.After-count_at-m)
    → (c.before.before.count_at-k.result ≤ 4) × (c.before.count_at-n.result * (1 + 2 * c.before.before.count_at-k.result) ≤ 1152)
    × (c.count_at-m.result * (3 + 2 * c.before.before.count_at-k.result) ≤ 352)
unfolding dims boxes rules
small c =
    let s = c.before.before.before in
    let o = opening _ s.requires.0 s.requires.1 in
    rw (c.count_at-m.ensures, c.before.count_at-n.ensures, c.before.before.count_at-k.ensures) (few-dims _ o, box-words _ o, rule-words _ o)

pub count_at-k-requires : goal.count_at-k-requires
count_at-k-requires c =
    let o = opening _ c.requires.0 c.requires.1 in
    (omega (arith, o.long), counted 1 4 (omega arith) o.k_in)

pub count_at-n-requires : goal.count_at-n-requires
count_at-n-requires c =
    let o = opening _ c.before.requires.0 c.before.requires.1 in
    (omega (arith, o.long), counted 1 128 (omega arith) o.b_in)

pub count_at-m-requires : goal.count_at-m-requires
count_at-m-requires c =
    let o = opening _ c.before.before.requires.0 c.before.before.requires.1 in
    (omega (arith, o.long), counted 0 32 (omega arith) o.r_in)

pub overflow_mul-result : goal.overflow_mul-result
overflow_mul-result c = omega (arith, small c)

pub overflow_add-result : goal.overflow_add-result
overflow_add-result c = omega (arith, small c)

pub overflow_mul-result-2 : goal.overflow_mul-result-2
overflow_mul-result-2 c = omega (arith, small c)

pub overflow_add-result-2 : goal.overflow_add-result-2
overflow_add-result-2 c = omega (arith, small c)

pub overflow_mul-result-3 : goal.overflow_mul-result-3
overflow_mul-result-3 c = omega (arith, small c)

pub overflow_add-result-3 : goal.overflow_add-result-3
overflow_add-result-3 c = omega (arith, small c)

pub overflow_mul-result-4 : goal.overflow_mul-result-4
overflow_mul-result-4 c = omega (arith, small c)

pub overflow_add-result-4 : goal.overflow_add-result-4
overflow_add-result-4 c = omega (arith, small c)

pub returns : goal.returns
unfolding bad_block_length block_length box_len rule_len dims boxes rules
returns c = rw (c.count_at-m.ensures, c.before.count_at-n.ensures, c.before.before.count_at-k.ensures)
