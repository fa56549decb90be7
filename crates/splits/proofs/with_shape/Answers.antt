-- `splits::with_shape` meets its contract: the set with one shape more, by the two tests. Assumes nothing.
use mathlib.Core.Path.{◌≡◌, sym, ap, ◌∙◌}
use mathlib.Core.Bool.{Bool, ◌&&◌, and-false}
use Prim.Native.Nat.{ℕ, suc, ◌+◌, ◌^◌, ◌<◌}
use native.Mathlib.Omega.{arith}
use lib.IntN.{pos, ◌+ℤ◌}
use mir.Facts.{to_z-of_z, to_z_pos}
use mir.Syntax.{w64}
use mir.Val.{to_z, of_z}
use Rattle.integers.specs.Bits.{holds}
use Rattle.integers.proofs.Booleans.{true-and}
use Rattle.integers.proofs.Ints.{ints, sum}
use Rattle.integers.proofs.Machine.{Held, within-pos, lit, held-sum}
use Rattle.integers.proofs.Sets.{step_in, step-out, set_of-below}
use Rattle.splits.specs.Splits.{is_between}
use Rattle.splits.proofs.with_shape.Goals as goal
use Rattle.splits.proofs.with_shape.Goals.{else-has_member-via-then-has_member+else-is_within, else-has_member-via-else-has_member}

-- the number of shape s + 1
is_number : (s : ℕ) → s < 32 → to_z w64 (of_z w64 (to_z w64 s +ℤ pos 1)) ≡ pos (suc s)
is_number s h =
    let index : Held 32 s (pos s) = record { value = to_z_pos w64 (omega arith); bound = within-pos (omega arith) } in
    (held-sum index (lit 1 tt) tt).value ∙ omega (ints, sum (pos s) (pos 1))

pub with_member-requires : goal.with_member-requires
with_member-requires c =
    let a = c.args in
    (c.requires.0, rw c.requires.1 (set_of-below a.s (is_between a.set a.from a.to)))

pub returns-then-is_within : goal.returns-then-is_within
unfolding is_between holds
returns-then-is_within c =
    let a = c.args in
    let held = sym c.has_member.ensures ∙ c.if-has_member.true in
    let between = rw (to_z-of_z c.ranges.from, to_z-of_z c.ranges.to, is_number a.s c.requires.0) at c.is_within.ensures in
    c.with_member.ensures ∙ ap (λ (n : ℕ). n + 2 ^ a.s) c.requires.1
    ∙ sym (step_in (is_between a.set a.from a.to) (true-and held (sym between ∙ c.if-is_within.true)))

pub returns-else-has_member : goal.returns-else-has_member
unfolding is_between holds
returns-else-has_member c =
    let a = c.args in
    elim c.else-has_member.branch [
      | else-has_member-via-then-has_member+else-is_within w ↦
          let between = rw (to_z-of_z c.ranges.from, to_z-of_z c.ranges.to, is_number a.s c.requires.0) at w.is_within.ensures in
          c.requires.1 ∙ sym (step-out (is_between a.set a.from a.to)
          (ap (λ (b : Bool). holds (pos a.set) (suc a.s) && b) (sym between ∙ w.if-is_within.false) ∙ and-false (holds (pos a.set) (suc a.s))))
      | else-has_member-via-else-has_member w ↦
          let e = sym c.has_member.ensures ∙ w.if-has_member.false in
          c.requires.1 ∙ sym (step-out (is_between a.set a.from a.to) (rw e))
    ]
