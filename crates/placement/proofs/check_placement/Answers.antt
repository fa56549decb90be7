-- `placement::check_placement` meets its contract: a refusal is handed on, and otherwise the placement is fixed. Assumes nothing.
use mathlib.Core.Path.{◌≡◌, sym, ap, ◌∙◌}
use Rattle.std.proofs.Common.{rules}
use Rattle.std.specs.Prelude.{Ok}
use Rattle.sheet.specs.Refusal.{refusal_placement}
use Rattle.sheet.proofs.Accepted.{accepted-block, accepted-table}
use Rattle.sheet.proofs.Answer.{answered, passed, refused}
use Rattle.placement.proofs.Verdicts.{checked}
use Rattle.placement.proofs.check_placement.Goals as goal
use Rattle.placement.proofs.check_placement.Goals.{In_ok-check_placement}

none : (c : In_ok-check_placement) → let a = c.args in refusal_placement a.block.now a.table.now ≡ 0
none c = passed _ _ c.check_placement.ensures c.in_ok-check_placement.was

pub returns-in_err-check_placement : goal.returns-in_err-check_placement
returns-in_err-check_placement c = refused _ _ _ c.check_placement.ensures c.in_err-check_placement.was (search rules)

pub draw-requires : goal.draw-requires
draw-requires c = accepted-block _ _ (checked _ _ (none c.before)).0

pub all_good-requires : goal.all_good-requires
all_good-requires c =
    let w = checked _ _ (none c.before.before.before) in
    record {
      accepted = accepted-block _ _ w.0;
      table = accepted-table _ _ w.0;
      outline = c.draw.ensures;
      all_fixed = w.1;
    }

pub returns : goal.returns
returns c = ap Ok c.all_good.ensures ∙ sym (answered _ (passed _ _ c.check_placement.ensures c.in_ok-check_placement.was))
