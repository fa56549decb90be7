-- `words::word_is` meets its contract: a count is compared as a number. Assumes nothing.
use mathlib.Core.Path.{ap, ◌∙◌}
use Prim.Native.Nat.{ℕ}
use Rattle.integers.proofs.Ranges.{nat-is}
use lib.Dec.{eqb}
use Rattle.words.proofs.word_is.Goals as goal

pub returns : goal.returns
returns c = ap (λ (x : ℕ). eqb x c.before.args.n) c.count_at.ensures ∙ nat-is c.before.requires.1.from c.before.args.n
