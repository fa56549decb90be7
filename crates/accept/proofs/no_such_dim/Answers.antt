-- `accept::no_such_dim` meets its contract: a dimension asked about is an index below the number of axes. Assumes nothing.
use mathlib.Core.Path.{ap, ap₂, ◌∙◌}
use mathlib.Core.Bool.{not, ◌&&◌}
use Prim.Native.Nat.{ℕ}
use native.Mathlib.Omega.{arith}
use lib.IntN.{ℤ, pos}
use lib.Signed.{le_z, lt_z}
use mir.Facts.{to_z-of_z}
use Rattle.sheet.specs.Refusal.{no_such_dim}
use Rattle.accept.proofs.no_such_dim.Goals as goal

pub is_index-requires : goal.is_index-requires
is_index-requires c = omega (arith, c.axes_of.ensures, c.before.requires.few_axes)

pub returns : goal.returns
unfolding no_such_dim
returns c =
    let x = c.before in
    λ table.
    ap not (c.is_index.ensures ∙ ap₂ (λ (z : ℤ) (n : ℕ). le_z (pos 0) z && lt_z z (pos n)) (to_z-of_z x.before.ranges.dim) x.axes_of.ensures)
