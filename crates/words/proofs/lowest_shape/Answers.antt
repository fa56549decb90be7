-- `words::lowest_shape` meets its contract: the lowest number of a set stands where its trailing zeros end. Assumes nothing.
use Prim.Native.Nat.{◌^◌, ◌<◌}
use native.Mathlib.Numerals.{add-one}
use native.Mathlib.Omega.{arith}
use lib.Count.{count_trailing_zeros, trailing_le}
use lib.IntN.{pos}
use lib.Signed.{◌≤ℤ◌}
use Rattle.integers.specs.Integer.{nat}
use Rattle.integers.proofs.Bits.{tz-lt}
use Rattle.integers.proofs.Ranges.{le-nat}
use Rattle.integers.proofs.Sets.{set_below, lowest-held, lowest-least}
use Rattle.sheet.specs.Layout.{shape_set, has_shape}
use Rattle.sheet.proofs.Accepted.{set-count}
use Rattle.words.proofs.lowest_shape.Goals as goal

pub shapes_of-requires : goal.shapes_of-requires
shapes_of-requires c =
    let i = c.requires.1 in
    (i, set-count c.requires.0 i.from i.upto)

pub overflow_cast-result : goal.overflow_cast-result
overflow_cast-result c = omega (arith, trailing_le 32 c.shapes_of.result)

pub overflow_add-result : goal.overflow_add-result
overflow_add-result c = omega (arith, trailing_le 32 c.shapes_of.result)

pub returns : goal.returns
unfolding has_shape
returns c =
    let s = c.before in
    let i = s.requires.1 in
    let set = shape_set s.args.block.now s.args.table.now s.args.i.number in
    let some : pos 1 ≤ℤ set = s.requires.0.sets_from _ i.from i.upto in
    let few : nat set < 2 ^ 32 = set_below 32 (s.requires.0.sets_upto _ i.from i.upto) in
    rw (c.shapes_of.ensures, add-one (count_trailing_zeros 32 (nat set)))
    (record { held = lowest-held 32 some few; least = lowest-least 32 set; upto = tz-lt 32 few (le-nat some) })
