-- `accept::range::full_set` meets its contract: the shift does not wrap, and the set fits a signed word. Assumes nothing.
use mir.Facts.{to_z-of_z}
use Rattle.accept.proofs.Tests.{power-fits, full-fits}
use lib.Pow.{pow_pos}
use Rattle.accept.proofs.range.full_set.Goals as goal

pub overflow_sub-result : goal.overflow_sub-result
overflow_sub-result c = rw (power-fits c.requires) (pow_pos _)

pub overflow_cast-result : goal.overflow_cast-result
overflow_cast-result c = rw (power-fits c.requires) (full-fits c.requires)

pub returns : goal.returns
returns c = rw (power-fits c.requires) (to_z-of_z (full-fits c.requires))
