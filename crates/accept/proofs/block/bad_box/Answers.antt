-- `accept::block::bad_box` meets its contract: each box is tested. Assumes nothing.
use mathlib.Core.Path.{ap}
use mathlib.Core.Bool.{not}
use Rattle.std.proofs.Common.{rules, tests}
use Rattle.integers.proofs.Scans.{all_in_range}
use Rattle.sheet.specs.Layout.{boxes, valid_box}
use Rattle.sheet.specs.Refusal.{bad_box}
use Rattle.accept.proofs.block.bad_box.Goals as goal

pub returns : goal.returns
unfolding bad_box
returns c =
    ap not (all_in_range (boxes c.args.block.now) (valid_box c.args.block.now) _ _ _ c.all.ensures.ran (search rules)
    (λ x b q k. search (rules, tests)))
