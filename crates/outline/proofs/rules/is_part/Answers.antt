-- `outline::rules::is_part` meets its contract: a set is a part of another where their meet is the set. Assumes nothing.
use borrow.Author.Tests.{eqb-true}
use lib.Bits.{bit_and}
use Rattle.outline.proofs.Counting.{part_of}
use Rattle.outline.proofs.rules.is_part.Goals as goal

pub returns : goal.returns
returns c = λ e. let a = c.args in part_of a.a a.b (eqb-true (bit_and a.a a.b) a.a e)
