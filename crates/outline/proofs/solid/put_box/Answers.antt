-- `outline::solid::put_box` meets its contract: in the dimensions passed its extents are written. Assumes nothing.
use mathlib.Core.Path.{◌≡◌, ap, ap₂, ◌∙◌}
use Prim.Native.Nat.{ℕ, ◌<◌}
use native.Mathlib.Omega.{arith}
use lib.IntN.{◌+ℤ◌}
use lib.ListN.{length, length-set}
use Rattle.integers.specs.Integer.{Within}
use Rattle.integers.proofs.Machine.{bnd, ◌+ʷ◌, exact, within_by}
use Rattle.sheet.specs.Layout.{dims, offset, size}
use Rattle.points.specs.Area.{coordinates}
use Rattle.outline.proofs.Hulls.{written-more}
use Rattle.outline.proofs.solid.put_box.Goals as goal

pub loop-d-preserved : goal.loop-d-preserved
loop-d-preserved c =
    let block = c.args.block.now in
    let b = c.args.b in
    let d = c.loop-d.d in
    let p = c.requires.0 in
    let below : d < dims block = omega (arith, c.dims_of-d-end.ensures, c.loop-d-test.true) in
    let small : d < coordinates = omega (arith, p.head.few_dims) in
    let offset-is : c.offset_of-start.result ≡ offset block b d =
    c.offset_of-start.ensures ∙ ap (λ (b : ℕ). offset block b d) c.box_place-place.ensures.1 in
    let size_is : c.size_of.result ≡ size block b d = c.size_of.ensures ∙ ap (λ (b : ℕ). size block b d) c.box_place-place.ensures.1 in
    let at : Within 10000 c.offset_of-start.result = within_by offset-is (p.offsets _ _ c.requires.1 below) in
    let long : Within 10000 c.size_of.result = within_by size_is (p.sizes _ _ c.requires.1 below) in
    let same = simp length-set at (ap length c.put_extent.ensures) in
    rw c.put_extent.ensures
    (written-more c.loop-d.outline _ small (omega (arith, p.head.few_boxes))
    c.loop-d.invariant (exact (bnd at) tt ∙ offset-is, exact (bnd at +ʷ bnd long) tt ∙ ap₂ ◌+ℤ◌ offset-is size_is))
