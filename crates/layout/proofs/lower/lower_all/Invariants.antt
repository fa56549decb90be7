-- `layout::lower::lower_all` meets its contract: the numbers one after another. Assumes nothing.
use Rattle.layout.specs.Lowering.{Lowered}
use Rattle.layout.proofs.lower.lower_all.Given as goal

abbrev pub invariant-loop-m : goal.invariant-loop-m
invariant-loop-m l = Lowered l.block l.m l.initial.rest l.initial.best l.rest l.best
