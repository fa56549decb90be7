-- `nearby::gather::gather` meets its contract: so far what the rules passed forbid is listed, and none that counts is left where the loop ends.
-- Assumes nothing.
use mathlib.Core.Bool.{◌&&◌}
use Rattle.integers.specs.Below.{any_below}
use Rattle.integers.specs.Bits.{bit}
use Rattle.integers.specs.Words.{word}
use Rattle.outline.specs.Places.{rules_at}
use Rattle.forbid.specs.Region.{rule_forbids}
use Rattle.nearby.specs.Adding.{Open, Grows}
use Rattle.nearby.proofs.gather.gather.Given as goal

abbrev pub invariant-loop-r : goal.invariant-loop-r
invariant-loop-r l =
    Open l.block l.table l.i.number l.s l.suspects l.known l.count
    × Grows l.block l.table l.i.number l.s
    (λ p. any_below l.r (λ m. bit (word l.outline rules_at) m && rule_forbids l.block l.table l.i.number l.s m p))
    l.initial.suspects l.initial.known l.initial.count l.suspects l.known l.count
