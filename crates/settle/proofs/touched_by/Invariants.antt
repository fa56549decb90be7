-- `settle::touched_by` meets its contract: a row below m that is not to be narrowed is spared by the rule. Assumes nothing.
use Rattle.settle.specs.Todo.{Spared}
use Rattle.settle.proofs.Turns.{Setting}
use Rattle.settle.proofs.touched_by.Given as goal

abbrev pub invariant-loop-m : goal.invariant-loop-m
invariant-loop-m l = Setting l.initial.due (Spared l.block l.table l.i.number l.r.number) l.m l.due
