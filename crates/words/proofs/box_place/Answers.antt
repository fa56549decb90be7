-- `words::box_place` meets its contract: the code's position is the layout's, and it stays below the length of the block. Assumes nothing.
use mathlib.Core.Path.{◌≡◌, refl}
use Prim.Native.Nat.{◌+◌, ◌*◌}
use native.Mathlib.Omega.{arith}
use Rattle.sheet.specs.Layout.{box_at}
use Rattle.words.proofs.Ends.{box-at, box-at-ends}
use Rattle.words.proofs.box_place.Goals as goal

-- the code's position
is : (c : goal.After-dims_of)
    → 3 + c.before.args.b * (1 + 2 * c.dims_of.result) ≡ box_at c.before.args.block.now c.before.args.b
is c = rw c.dims_of.ensures (box-at _ c.before.args.b)

pub overflow_mul-result-2 : goal.overflow_mul-result-2
overflow_mul-result-2 c = omega (arith, is c, box-at-ends c.before.requires.0 c.before.requires.1)

pub overflow_add-result-2 : goal.overflow_add-result-2
overflow_add-result-2 c = omega (arith, is c, box-at-ends c.before.requires.0 c.before.requires.1)

pub returns : goal.returns
returns c = (record { head = c.before.requires.0; below = c.before.requires.1; stands = is c }, refl)
