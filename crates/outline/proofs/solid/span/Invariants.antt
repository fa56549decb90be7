-- `outline::solid::span` meets its contract: the extent is that of the shape's boxes before the next one. Assumes nothing.
use Prim.Native.Nat.{◌-◌}
use Rattle.sheet.specs.Layout.{boxes}
use Rattle.outline.specs.Solids.{Spans}
use Rattle.outline.proofs.Chains.{upto, Next}
use Rattle.outline.proofs.solid.span.Given as goal

abbrev pub invariant-loop-next : goal.invariant-loop-next
invariant-loop-next l = Next l.block l.s l.next × Spans l.block l.s l.d (upto l.block l.next) l.hull

abbrev pub decreases-loop-next : goal.decreases-loop-next
decreases-loop-next l = boxes l.block - upto l.block l.next
