-- `words::rule_place` meets its contract: the code's position is the layout's, and it stays below the length of the block. Assumes nothing.
use mathlib.Core.Path.{◌≡◌, refl}
use Prim.Native.Nat.{◌+◌, ◌*◌}
use native.Mathlib.Omega.{arith}
use Rattle.sheet.specs.Layout.{rule_at}
use Rattle.words.proofs.Ends.{rule-at, rule-at-ends}
use Rattle.words.proofs.rule_place.Goals as goal

-- the code's position
is : (c : goal.After-boxes_of-n)
    → 3 + c.boxes_of-n.result * (1 + 2 * c.before.dims_of-k.result) + c.before.before.args.r * (3 + 2 * c.before.dims_of-k.result)
    ≡ rule_at c.before.before.args.block.now c.before.before.args.r
is c = rw (c.boxes_of-n.ensures, c.before.dims_of-k.ensures) (rule-at _ c.before.before.args.r)

pub overflow_mul-result-2 : goal.overflow_mul-result-2
overflow_mul-result-2 c = omega (arith, is c, rule-at-ends c.before.before.requires.0 c.before.before.requires.1)

pub overflow_add-result-2 : goal.overflow_add-result-2
overflow_add-result-2 c = omega (arith, is c, rule-at-ends c.before.before.requires.0 c.before.before.requires.1)

pub overflow_mul-result-4 : goal.overflow_mul-result-4
overflow_mul-result-4 c = omega (arith, is c, rule-at-ends c.before.before.requires.0 c.before.before.requires.1)

pub overflow_add-result-4 : goal.overflow_add-result-4
overflow_add-result-4 c = omega (arith, is c, rule-at-ends c.before.before.requires.0 c.before.before.requires.1)

pub returns : goal.returns
returns c = (record { head = c.before.before.requires.0; below = c.before.before.requires.1; stands = is c }, refl)
