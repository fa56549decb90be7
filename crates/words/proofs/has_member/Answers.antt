-- `words::has_member` meets its contract: the machine's shift and remainder are the definition's. Assumes nothing.
use mathlib.Core.Path.{refl}
use Rattle.integers.specs.Bits.{bit, bit_at}
use Rattle.words.proofs.has_member.Goals as goal

pub returns : goal.returns
unfolding bit bit_at
returns c = refl
