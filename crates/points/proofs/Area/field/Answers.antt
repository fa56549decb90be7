-- `Area::field` meets its contract: the repeats are the definition's. Assumes nothing.
use mathlib.Core.Path.{refl}
use Rattle.points.specs.Area.{field_area}
use Rattle.points.proofs.Area.field.Goals as goal

pub returns : goal.returns
unfolding field_area
returns c = refl
