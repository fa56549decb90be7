-- `words::clearance_of` meets its contract: it is the low word. Assumes nothing.
use Rattle.sheet.specs.Layout.{clearance}
use Rattle.words.proofs.Reading.{read_back}
use Rattle.words.proofs.clearance_of.Goals as goal

pub room_low-requires : goal.room_low-requires
room_low-requires c = c.requires

pub returns : goal.returns
unfolding clearance
returns c = read_back c.room_low.ensures c.room_low.type_inv
