-- `words::bit_at` meets its contract: the machine's shift and remainder are the definition's. Assumes nothing.
use Rattle.integers.specs.Bits.{bit, bit_at}
use Rattle.words.proofs.bit_at.Goals as goal

pub returns : goal.returns
unfolding bit bit_at
returns c = rw c.count_at.ensures
