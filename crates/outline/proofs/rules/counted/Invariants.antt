-- `outline::rules::counted` meets its contract: so far the set is that of the rules passed. Assumes nothing.
use Rattle.outline.specs.Rules.{CountedTo}
use Rattle.outline.proofs.rules.counted.Given as goal

abbrev pub invariant-loop-r : goal.invariant-loop-r
invariant-loop-r l = CountedTo l.block l.r l.set
