-- Each relation is numbered in the code as in the definition. Assumes nothing.
use mathlib.Core.Path.{◌≡◌, refl}
use denote.Enum.Declared.{tag_of}
use lib.IntN.{pos, ◌+ℤ◌}
use mir.Syntax.{w64}
use mir.Val.{to_z, of_z}
use Rattle.sheet.specs.contracts.Allen.{the_type}
use Rattle.sheet.specs.declared.Allen.{Allen}
use Rattle.sheet.specs.declared.Allen.TheVariants as V
use Rattle.sheet.specs.Relation.{relation_number}
use Rattle.sheet.proofs.I64FromAllen.from.Goals as goal

-- the code's number is one more than the place in the declaration
numbered : (x : Allen) → to_z w64 (of_z w64 (to_z w64 (tag_of the_type x) +ℤ pos 1)) ≡ pos (relation_number x)
unfolding relation_number
numbered V.Precedes = refl
numbered V.Meets = refl
numbered V.Overlaps = refl
numbered V.Contains = refl
numbered V.Starts = refl
numbered V.Finishes = refl
numbered V.Equals = refl
numbered V.StartedBy = refl
numbered V.FinishedBy = refl
numbered V.During = refl
numbered V.OverlappedBy = refl
numbered V.MetBy = refl
numbered V.PrecededBy = refl

pub returns : goal.returns
returns c = numbered c.args.x
