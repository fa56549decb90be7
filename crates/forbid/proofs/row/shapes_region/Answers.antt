-- `row::shapes_region` meets its contract: the pair that was found is the region. Assumes nothing.
use mathlib.Core.Path.{sym, ◌∙◌}
use Rattle.sheet.proofs.Forbidden.{shapes-by}
use Rattle.forbid.proofs.Solids.{solids-boxes, box-places}
use Rattle.forbid.proofs.Regions.{cut-region, forbids-by}
use Rattle.forbid.proofs.row.shapes_region.Goals as goal

pub pair_area-requires : goal.pair_area-requires
pair_area-requires c =
    let w = c.requires.0 in
    let x = c.in_ok-own.ensures.pair in
    box-places w.at_point.accepted w.at_point.table w.at_point.outline w.rule w.row x.own_below x.other_below

pub returns : goal.returns
returns c =
    let w = c.requires.0 in
    let x = c.in_ok-own.ensures.pair in
    λ i. forbids-by (λ q f. shapes-by _ _ _ _ _ _ _ q (record {
      own = _;
      other = _;
      own_below = x.own_below;
      other_below = x.other_below;
      own_is = x.own_is;
      other_is = x.other_is;
      pair = sym (solids-boxes _ _ _ _ _ w.at_point.outline.boxes_of i x.own_below x.other_below q) ∙ f;
    }))
    (cut-region w.at_point.accepted.head.few_axes w.at_point.near x.forbids c.pair_area.ensures)
