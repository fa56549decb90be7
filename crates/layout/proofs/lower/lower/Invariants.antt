-- `layout::lower::lower` meets its contract: each turn leaves less of the excess, and at the end the rest keeps the best's value. Assumes nothing.
use Rattle.layout.specs.Lowering.{Lowered, excess}
use Rattle.layout.proofs.lower.lower.Given as goal

abbrev pub invariant-loop-rest : goal.invariant-loop-rest
invariant-loop-rest l = Lowered l.block l.m l.initial.rest l.initial.best l.rest l.best

abbrev pub decreases-loop-rest : goal.decreases-loop-rest
decreases-loop-rest l = excess l.block l.m l.rest l.best
