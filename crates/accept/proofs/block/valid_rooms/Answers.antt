-- `accept::block::valid_rooms` meets its contract: the room of each dimension is tested. Assumes nothing.
use Rattle.std.proofs.Common.{rules, tests}
use Rattle.integers.proofs.Scans.{all_in_range}
use Rattle.sheet.specs.Layout.{dims, valid_ends}
use Rattle.accept.proofs.block.valid_rooms.Goals as goal

pub returns : goal.returns
returns c =
    all_in_range (dims c.args.block.now) (valid_ends c.args.block.now c.args.r.number) _ _ _ c.all.ensures.ran (search rules)
    (λ x b q k. search (rules, tests))
