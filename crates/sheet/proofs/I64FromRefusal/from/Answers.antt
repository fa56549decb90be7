-- Each refusal is numbered in the code as in the definition. Assumes nothing.
use mathlib.Core.Path.{◌≡◌, refl}
use denote.Enum.Declared.{tag_of}
use lib.IntN.{pos, ◌+ℤ◌}
use mir.Syntax.{w64}
use mir.Val.{to_z, of_z}
use Rattle.sheet.specs.contracts.Refusal.{the_type}
use Rattle.sheet.specs.declared.Refusal.{Refusal}
use Rattle.sheet.specs.declared.Refusal.TheVariants as V
use Rattle.sheet.specs.Refusal.{refusal_number}
use Rattle.sheet.proofs.I64FromRefusal.from.Goals as goal

-- the code's number is one more than the place in the declaration
numbered : (x : Refusal) → to_z w64 (of_z w64 (to_z w64 (tag_of the_type x) +ℤ pos 1)) ≡ pos (refusal_number x)
unfolding refusal_number
numbered V.BadText = refl
numbered V.BadHead = refl
numbered V.BadCounts = refl
numbered V.BadBlockLength = refl
numbered V.BadTableLength = refl
numbered V.BadBox = refl
numbered V.BadRule = refl
numbered V.BadRow = refl
numbered V.NoSuchRow = refl
numbered V.NoSuchShape = refl
numbered V.NoSuchDim = refl
numbered V.NotFixed = refl
numbered V.NoFillRule = refl
numbered V.BadCells = refl
numbered V.NotGood = refl
numbered V.TooManyRows = refl

pub returns : goal.returns
returns c = numbered c.args.g
