-- `fill::room::rule_asked` meets its contract: a number from 1 to the number of rules is cast to a rule's. Assumes nothing.
use mathlib.Core.Path.{◌≡◌, refl, sym, ap, ap₂, ◌∙◌}
use mathlib.Core.Bool.{not}
use Prim.Native.Nat.{ℕ, ◌-◌, ◌^◌, ◌<◌}
use native.Mathlib.Omega.{arith}
use lib.IntN.{pos, nat_abs}
use mir.Facts.{to_z-of_z, to_z_pos}
use mir.Syntax.{w64}
use mir.Val.{to_z, of_z}
use Rattle.integers.specs.Integer.{nat, within}
use Rattle.integers.proofs.Machine.{cast_ok}
use Rattle.sheet.specs.Layout.{rules}
use Rattle.sheet.specs.Fill.{rule_asked, is_fill_rule}
use Rattle.sheet.specs.Refusal.{no_fill_rule}
use Rattle.words.proofs.Reading.{cast-nat}
use Rattle.fill.proofs.Asked.{RuleNumber, rule-number, none-asked, one-asked}
use Rattle.fill.proofs.room.rule_asked.Goals as goal
use Rattle.fill.proofs.room.rule_asked.Goals.{After-is_within, Else-not-is_within, After-is_fill_rule}

-- the answer of the range test, of the words themselves
in-range : (c : After-is_within) → c.is_within.result ≡ within (pos 1) (pos (rules c.args.block.now)) c.args.rule
in-range c =
    let l : c.rules_of.result < 2 ^ 63 = omega (arith, c.rules_of.ensures, c.requires.head.few_rules) in
    c.is_within.ensures ∙ ap₂ (within (pos 1)) (to_z_pos w64 l ∙ ap pos c.rules_of.ensures) (to_z-of_z c.ranges.rule)

number : (c : Else-not-is_within) → RuleNumber c.args.block.now c.args.rule
number c = rule-number c.requires.head (sym (in-range c.before) ∙ c.if-not-is_within.false)

rule-cast : (c : Else-not-is_within) → nat_abs (to_z w64 (of_z w64 c.args.rule)) ≡ nat c.args.rule
rule-cast c = cast-nat c.args.rule c.ranges.rule.sfits (number c).count

rule-is : (c : Else-not-is_within) → nat_abs (to_z w64 (of_z w64 c.args.rule)) - 1 ≡ rule_asked c.args.rule
unfolding rule_asked
rule-is c = ap (λ (n : ℕ). n - 1) (rule-cast c)

pub rules_of-requires : goal.rules_of-requires
rules_of-requires c = c.requires.head

pub returns-then-not-is_within : goal.returns-then-not-is_within
returns-then-not-is_within c = (refl, none-asked _ _ (sym (in-range c.before) ∙ c.if-not-is_within.true))

pub overflow_cast-rule : goal.overflow_cast-rule
overflow_cast-rule c = let n = number c in cast_ok n.count.from n.count.upto tt tt

pub overflow_sub-rule : goal.overflow_sub-rule
overflow_sub-rule c = rw (rule-cast c) (omega (arith, (number c).from))

pub rule_place-r-requires : goal.rule_place-r-requires
rule_place-r-requires c = (c.requires.head, rw (rule-is c) (number c).below)

pub is_fill_rule-requires : goal.is_fill_rule-requires
is_fill_rule-requires c = (c.requires, c.rule_place-r.ensures.0)

module _ (c : After-is_fill_rule) where
  abbrev e : Else-not-is_within
  e = c.before.before

  is-asked : c.rule_place-r.result.number ≡ rule_asked c.args.rule
  is-asked = c.rule_place-r.ensures.1 ∙ rule-is e

  test : not c.is_fill_rule.result ≡ no_fill_rule c.args.block.now c.args.rule
  test =
      ap not (c.is_fill_rule.ensures ∙ ap (is_fill_rule _) is-asked)
      ∙ sym (one-asked _ _ (sym (in-range e.before) ∙ e.if-not-is_within.false))

pub returns-then-not-is_fill_rule : goal.returns-then-not-is_fill_rule
returns-then-not-is_fill_rule c = (refl, sym (test c.before) ∙ ap not c.if-not-is_fill_rule.true)

pub returns : goal.returns
returns c =
    let x = c.before in (
      record { accepted = c.requires; rule = c.rule_place-r.ensures.0; is_fill = sym c.is_fill_rule.ensures ∙ c.if-not-is_fill_rule.false },
      is-asked x,
      sym (test x) ∙ ap not c.if-not-is_fill_rule.false,
    )
