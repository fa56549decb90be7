-- `outline::solid::around` meets its contract: the lesser start and the larger end. Assumes nothing.
use mir.Facts.{to_z-of_z}
use native.Mathlib.Omega.{arith}
use Rattle.points.proofs.Sums.{max_is, min_is}
use Rattle.outline.proofs.solid.around.Goals as goal

pub returns : goal.returns
returns c = (grind (arith, to_z-of_z, min_is), grind (arith, to_z-of_z, max_is))
