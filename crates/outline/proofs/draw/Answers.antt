-- `outline::draw` meets its contract: each part keeps what the parts before it made. Assumes nothing.
use native.Mathlib.Omega.{arith}
use Rattle.outline.proofs.Chains.{chained-kept}
use Rattle.outline.proofs.Counting.{rules-kept}
use Rattle.outline.proofs.Solids.{boxes-kept}
use Rattle.outline.proofs.draw.Goals as goal

pub returns : goal.returns
returns c =
    let head = c.requires.head in
    let same = c.put_hulls.ensures.0 in
    let boxes = c.put_boxes.ensures in record {
      chained = chained-kept head (omega arith) same
          (chained-kept head (omega arith) boxes.0 (chained-kept head (omega arith) c.count_rules.ensures.0 c.link_boxes.ensures));
      rules = rules-kept (omega arith) same (rules-kept (omega arith) boxes.0 c.count_rules.ensures.1);
      boxes_of = boxes-kept head same (omega arith) boxes.1;
      hulls = c.put_hulls.ensures.1;
    }
