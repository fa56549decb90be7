-- `row::forbidding_boxes` meets its contract: so far no pair of boxes forbids the point, and the first that does is found. Assumes nothing.
use Rattle.std.specs.Prelude.{None}
use mathlib.Core.Path.{◌≡◌}
use mathlib.Core.Bool.{false}
use Prim.Native.Nat.{◌-◌}
use Rattle.sheet.specs.Layout.{boxes}
use Rattle.outline.proofs.Chains.{upto}
use Rattle.forbid.proofs.Solids.{forbids_to}
use Rattle.forbid.proofs.Chains.{Walk, ClearOf}
use Rattle.forbid.proofs.row.forbidding_boxes.Given as goal

abbrev pub invariant-loop-own_box : goal.invariant-loop-own_box
invariant-loop-own_box l =
    (l.found ≡ None) × Walk l.block l.s l.own_box (λ b. forbids_to l.block l.table l.outline l.r l.j b l.other l.p ≡ false)

abbrev pub decreases-loop-own_box : goal.decreases-loop-own_box
decreases-loop-own_box l = boxes l.block - upto l.block l.own_box

abbrev pub invariant-pairs : goal.invariant-pairs
invariant-pairs l = (l.found ≡ None) × Walk l.block l.t l.other_box (ClearOf l.block l.table l.outline l.r l.s l.j l.p)

abbrev pub decreases-pairs : goal.decreases-pairs
decreases-pairs l = boxes l.block - upto l.block l.other_box
