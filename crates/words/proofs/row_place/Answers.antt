-- `words::row_place` meets its contract: the code's position is the layout's, and it stays below the length of the table. Assumes nothing.
use mathlib.Core.Path.{◌≡◌, refl}
use Prim.Native.Nat.{◌-◌, ◌*◌}
use native.Mathlib.Omega.{arith}
use Rattle.sheet.specs.Layout.{row_at}
use Rattle.words.proofs.Ends.{row-at, row-at-ends}
use Rattle.words.proofs.row_place.Goals as goal

-- the code's position
is : (c : goal.After-row_len) → (c.before.args.i - 1) * c.row_len.result ≡ row_at c.before.args.block.now c.before.args.i
is c = rw c.row_len.ensures (row-at _ c.before.args.i c.before.requires.2.from)

pub overflow_mul-result : goal.overflow_mul-result
overflow_mul-result c = omega (arith, is c, row-at-ends c.before.requires.1 c.before.requires.2.from c.before.requires.2.upto)

pub returns : goal.returns
returns c =
    let pre = c.before.requires in
    (record { head = pre.0; whole = pre.1; from = pre.2.from; upto = pre.2.upto; stands = is c }, refl)
