-- `outline::chain::link_boxes` meets its contract: the boxes from b on are linked. Assumes nothing.
use Rattle.outline.specs.Chain.{ChainedFrom}
use Rattle.outline.proofs.chain.link_boxes.Given as goal

abbrev pub invariant-loop-b : goal.invariant-loop-b
invariant-loop-b l = ChainedFrom l.block l.outline l.b
