-- `outline::solid::put_boxes` meets its contract: the boxes before b are put. Assumes nothing.
use native.Mathlib.Omega.{arith}
use borrow.Author.Count.{below_more}
use Rattle.outline.proofs.Runs.{same_then}
use Rattle.outline.proofs.Solids.{box-kept}
use Rattle.outline.specs.Solids.{IsBox}
use Rattle.outline.proofs.solid.put_boxes.Goals as goal

pub loop-b-preserved : goal.loop-b-preserved
loop-b-preserved c =
    let i = c.loop-b.invariant in
    let e = c.put_box.ensures in (
      same_then i.0 e.0 (omega arith),
      below_more (IsBox c.args.block.now c.put_box.new.outline) c.loop-b.b
          (λ b m. box-kept c.requires.head e.0 b (omega arith) (i.1 b m)) e.1,
    )
