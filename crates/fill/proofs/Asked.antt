-- The rule that a call asks about, as a number: a position from 1 is that of a rule (`RuleNumber`). Assumes nothing.
use mathlib.Core.Path.{◌≡◌, ap}
use mathlib.Core.Bool.{Bool, true, false, not, ◌&&◌}
use mathlib.Core.List.{List}
use Prim.Native.Nat.{◌≤◌, ◌<◌}
use native.Mathlib.Omega.{arith}
use lib.IntN.{ℤ, pos}
use Rattle.integers.specs.Integer.{nat, within}
use Rattle.integers.proofs.Ranges.{nat-from}
use Rattle.sheet.specs.Layout.{rules}
use Rattle.sheet.specs.Fill.{rule_asked, is_fill_rule}
use Rattle.sheet.specs.Refusal.{no_fill_rule}
use Rattle.sheet.specs.Accepted.{Count, Head}
use Rattle.sheet.proofs.Accepted.{counted}

pub record RuleNumber (block : List ℤ) (rule : ℤ) : Type 0 where
  pub count : Count rule
  pub from : 1 ≤ nat rule
  pub below : rule_asked rule < rules block

pub rule-number : {block : List ℤ} {rule : ℤ} → Head block → within (pos 1) (pos (rules block)) rule ≡ true → RuleNumber block rule
unfolding rule_asked
rule-number {block} {rule} h e =
    let w = nat-from rule e in
    record { count = counted 1 (rules block) (omega (arith, h.few_rules)) e; from = w.0; below = omega (arith, w.0, w.1) }

-- check 13, where there is no such rule and where there is one
module _ (block : List ℤ) (rule : ℤ) where
  pub none-asked : within (pos 1) (pos (rules block)) rule ≡ false → no_fill_rule block rule ≡ true
  unfolding no_fill_rule
  none-asked e = ap (λ (b : Bool). not (b && is_fill_rule block (rule_asked rule))) e

  pub one-asked : within (pos 1) (pos (rules block)) rule ≡ true → no_fill_rule block rule ≡ not (is_fill_rule block (rule_asked rule))
  unfolding no_fill_rule
  one-asked e = ap (λ (b : Bool). not (b && is_fill_rule block (rule_asked rule))) e
