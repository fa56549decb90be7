-- `listing::row_len` meets its contract. Assumes nothing.
use mathlib.Core.Path.{◌≡◌, sym, ◌∙◌}
use Prim.Native.Nat.{◌≤◌}
use native.Mathlib.Omega.{arith}
use lib.IntN.{ℤ, pos}
use lib.ListN.{get_or}
use mir.Syntax.{w64}
use mir.Val.{SFits, to_z, of_z}
use mir.Facts.{to_z-of_z}
use Rattle.integers.specs.Integer.{nat}
use Rattle.integers.proofs.Ints.{ints}
use Rattle.integers.proofs.Ranges.{pos-nat}
use Rattle.listing.proofs.Rows.{len-none, len-low, len-high, len-in}
use borrow.Author.Rules.{rules}
use Rattle.listing.proofs.row_len.Goals as goal

pub returns-then-block-eq0 : goal.returns-then-block-eq0
returns-then-block-eq0 c = len-none _ c.if-block-eq0.true

pub returns-then-k-lt1 : goal.returns-then-k-lt1
returns-then-k-lt1 c =
    let f : SFits w64 (get_or c.args.block.now 0 (pos 0)) = search rules in
    len-low _ (omega ints)

pub returns-then-k-gt143 : goal.returns-then-k-gt143
returns-then-k-gt143 c =
    let f : SFits w64 (get_or c.args.block.now 0 (pos 0)) = search rules in
    len-high _ (omega ints)

-- the first word is a number up to 143
record Small (z : ℤ) : Type 0 where
  word : z ≡ pos (nat z)
  bits : to_z w64 (of_z w64 z) ≡ pos (nat z)
  few : nat z ≤ 143

small : (c : goal.Else-k-gt143) → Small (get_or c.args.block.now 0 (pos 0))
small c =
    let z = get_or c.args.block.now 0 (pos 0) in
    let f : SFits w64 z = search rules in
    let is : z ≡ pos (nat z) = sym (pos-nat (omega ints)) in
    record { word = is; bits = to_z-of_z f ∙ is; few = omega ints }

pub overflow_cast-result : goal.overflow_cast-result
overflow_cast-result c = let k = small c in rw k.bits (tt, omega arith)

pub overflow_mul-result : goal.overflow_mul-result
overflow_mul-result c = let k = small c in rw k.bits (omega arith)

pub overflow_add-result-2 : goal.overflow_add-result-2
overflow_add-result-2 c = let k = small c in rw k.bits (omega arith)

pub returns : goal.returns
returns c = let k = small c in rw k.bits (len-in _ k.word k.few)
