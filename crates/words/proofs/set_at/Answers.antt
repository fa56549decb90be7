-- `words::set_at` meets its contract: a word that is a set is cast whole. Assumes nothing.
use Rattle.std.proofs.Common.{rules}
use Rattle.integers.specs.Words.{word}
use Rattle.integers.proofs.Machine.{cast_ok}
use Rattle.words.proofs.Reading.{cast-nat}
use Rattle.words.proofs.set_at.Goals as goal

pub overflow_cast-result : goal.overflow_cast-result
overflow_cast-result c = cast_ok c.requires.1.from c.requires.1.upto tt tt

pub returns : goal.returns
returns c = cast-nat (word c.args.words.now c.args.at) (search rules) c.requires.1
