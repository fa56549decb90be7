-- The first three words of a block, once checks 2 and 3 have passed: they can be read, and they are small, so that the length
-- that check 4 asks for fits a machine word. Assumes nothing.
use mathlib.Core.List.{List}
use mathlib.Core.Path.{◌≡◌}
use mathlib.Core.Bool.{true, false}
use Prim.Native.Nat.{◌+◌, ◌*◌, ◌≤◌}
use native.Mathlib.Nat.{mul-le-mul}
use native.Mathlib.Omega.{arith}
use borrow.Author.Tests.{ltb-false}
use lib.Dec.{ltb}
use lib.IntN.{ℤ, pos}
use lib.ListN.{length}
use Rattle.integers.specs.Integer.{within}
use Rattle.integers.specs.Words.{word}
use Rattle.integers.proofs.Booleans.{not-false, and-true, or-false}
use Rattle.integers.proofs.Ranges.{nat-from}
use Rattle.sheet.specs.Layout.{dims, boxes, rules}
use Rattle.sheet.specs.Refusal.{bad_head, bad_counts}

module _ (block : List ℤ) where
  -- the three words are in their ranges
  pub record Opening : Type 0 where
    pub long : 3 ≤ length block
    pub k_in : within (pos 1) (pos 4) (word block 0) ≡ true
    pub b_in : within (pos 1) (pos 128) (word block 1) ≡ true
    pub r_in : within (pos 0) (pos 32) (word block 2) ≡ true

  pub head-long : bad_head block ≡ false → 3 ≤ length block
  unfolding bad_head
  head-long h = ltb-false _ 3 (or-false {a = ltb (length block) 3} h).0

  pub opening : bad_head block ≡ false → bad_counts block ≡ false → Opening
  unfolding bad_head bad_counts
  opening h c =
      let b = and-true (not-false c) in
      record { long = head-long h; k_in = not-false (or-false {a = ltb (length block) 3} h).1; b_in = b.0; r_in = b.1 }

  pub few-dims : Opening → dims block ≤ 4
  unfolding dims
  few-dims o = (nat-from (word block 0) o.k_in).1

  few-boxes : Opening → boxes block ≤ 128
  unfolding boxes
  few-boxes o = (nat-from (word block 1) o.b_in).1

  few-rules : Opening → rules block ≤ 32
  unfolding rules
  few-rules o = (nat-from (word block 2) o.r_in).1

  pub box-words : Opening → boxes block * (1 + 2 * dims block) ≤ 128 * 9
  box-words o = let l : 1 + 2 * dims block ≤ 9 = omega (arith, few-dims o) in mul-le-mul (few-boxes o) l

  pub rule-words : Opening → rules block * (3 + 2 * dims block) ≤ 32 * 11
  rule-words o = let l : 3 + 2 * dims block ≤ 11 = omega (arith, few-dims o) in mul-le-mul (few-rules o) l
