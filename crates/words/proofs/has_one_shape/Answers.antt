-- `words::has_one_shape` meets its contract: a set of one bit holds one number. Assumes nothing.
use mathlib.Core.Path.{ap, ◌∙◌}
use Prim.Native.Nat.{ℕ}
use lib.Count.{ones}
use lib.Dec.{eqb}
use Rattle.integers.proofs.Sets.{set_below, one-only-held}
use Rattle.sheet.specs.Layout.{has_only}
use Rattle.words.proofs.has_one_shape.Goals as goal

pub returns : goal.returns
unfolding has_only
returns c = ap (λ (n : ℕ). eqb (ones n) 1) c.shapes_of.ensures ∙ one-only-held 32 _ (set_below 32 c.before.requires.1.upto)
