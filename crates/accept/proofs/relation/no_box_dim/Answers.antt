-- `accept::relation::no_box_dim` meets its contract: a dimension of the boxes is an index below k. Assumes nothing.
use mathlib.Core.Path.{ap, ap₂, ◌∙◌}
use mathlib.Core.Bool.{not, ◌&&◌}
use Prim.Native.Nat.{ℕ}
use native.Mathlib.Omega.{arith}
use lib.IntN.{ℤ, pos}
use lib.Signed.{le_z, lt_z}
use mir.Facts.{to_z-of_z}
use Rattle.sheet.specs.Refusal.{no_box_dim}
use Rattle.accept.proofs.relation.no_box_dim.Goals as goal

pub is_index-requires : goal.is_index-requires
is_index-requires c = omega (arith, c.dims_of.ensures, c.before.requires.few_dims)

pub returns : goal.returns
unfolding no_box_dim
returns c =
    let x = c.before in
    ap not (c.is_index.ensures ∙ ap₂ (λ (z : ℤ) (n : ℕ). le_z (pos 0) z && lt_z z (pos n)) (to_z-of_z x.before.ranges.dim) x.dims_of.ensures)
