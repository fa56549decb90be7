-- `settle::touched_by` meets its contract: a row below m that is not to be narrowed is spared by the rule. Assumes nothing.
use mathlib.Core.Path.{sym, ap, subst}
use mathlib.Core.Bool.{Bool}
use Prim.Native.Nat.{◌+◌}
use native.Mathlib.Omega.{arith}
use lib.ListN.{length, length-set}
use Rattle.integers.proofs.Booleans.{clash}
use Rattle.settle.specs.Todo.{Spared}
use Rattle.settle.proofs.Turns.{Setting, setting-stay, setting-put, setting-done}
use Rattle.settle.proofs.touched_by.Goals as goal
use Rattle.settle.proofs.touched_by.Goals.{then-not-due-m+then-threatens, else-not-due-m, else-not-due-m-via-then-not-due-m+else-threatens, else-not-due-m-via-else-not-due-m}

pub loop-m-preserved : goal.loop-m-preserved
loop-m-preserved c =
    let a = c.args in
    let next = Setting a.due.now (Spared a.block.now a.table.now a.i.number a.r.number) (c.loop-m.m + 1) in
    let few = c.requires.0.on.table.whole.few_rows in
    elim c.if-not-due-m.branch [
      | then-not-due-m+then-threatens w ↦ subst next (sym w.due-is) (setting-put c.loop-m.invariant
          (omega (arith, few, c.requires.0.count, c.if-not-due-m.array_long, ap length w.due-is, length-set {A = Bool})))
      | else-not-due-m w ↦ subst next (sym w.due-is) (setting-stay c.loop-m.invariant
          (elim w.else-not-due-m.branch [
            | else-not-due-m-via-then-not-due-m+else-threatens x ↦ λ e kind names-i names. x.threatens.ensures x.if-threatens.false names
            | else-not-due-m-via-else-not-due-m x ↦ λ e. clash x.if-not-due-m.false e
          ]))
    ]

pub returns : goal.returns
returns c = setting-done c.loop-m.invariant c.loop-m-test.false
