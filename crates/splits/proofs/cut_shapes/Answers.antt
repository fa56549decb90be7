-- `splits::cut_shapes` meets its contract: the set is written anew. Assumes nothing.
use mathlib.Core.Path.{◌≡◌, ap, ap₂, ◌∙◌}
use Prim.Native.Nat.{ℕ}
use native.Mathlib.Omega.{arith}
use lib.IntN.{ℤ}
use lib.ListN.{set}
use mir.Facts.{to_z-of_z, to_z_pos}
use mir.Syntax.{w64}
use mir.Val.{to_z}
use Rattle.integers.specs.Integer.{nat}
use Rattle.integers.specs.Bits.{set_of}
use Rattle.integers.proofs.Sets.{set_of-below}
use Rattle.sheet.specs.Layout.{shape_set}
use Rattle.splits.specs.Splits.{is_between}
use Rattle.splits.proofs.Writes.{set-shapes}
use Rattle.splits.proofs.cut_shapes.Goals as goal

pub returns : goal.returns
returns c =
    let a = c.args in
    let held = nat (shape_set a.block.now a.table.now a.i.number) in
    let shapes : ℕ → ℤ → ℤ → ℕ = λ set x y. set_of 32 (is_between set x y) in
    let is : c.shapes_between-shapes.result ≡ shapes held a.from a.to =
    c.shapes_between-shapes.ensures ∙ ap₂ (shapes c.shapes_of.result) (to_z-of_z c.ranges.from) (to_z-of_z c.ranges.to)
    ∙ ap (λ (set : ℕ). shapes set a.from a.to) c.shapes_of.ensures in
    let small = set_of-below 32 (is_between held a.from a.to) in
    ap (λ (z : ℤ). set a.table.now a.i.at z) (ap (to_z w64) is ∙ to_z_pos w64 (omega arith))
    ∙ set-shapes c.requires.1 c.requires.0 a.from a.to
