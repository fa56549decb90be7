-- `outline::solid::put_hull` meets its contract: in the dimensions passed the extents of the shape's boxes are written. Assumes nothing.
use mathlib.Core.Path.{ap}
use mathlib.Core.List.{List}
use Prim.Native.Nat.{ℕ, ◌<◌}
use native.Mathlib.Omega.{arith}
use lib.IntN.{ℤ}
use lib.ListN.{length, length-set}
use Rattle.outline.specs.Places.{shapes_most}
use Rattle.outline.specs.Solids.{Spanning}
use Rattle.outline.proofs.Chains.{chained-kept}
use Rattle.outline.proofs.Solids.{shape-few, boxes-kept}
use Rattle.outline.proofs.Hulls.{written-more, hull-of-spans}
use Rattle.outline.proofs.solid.put_hull.Goals as goal

few : {block o : List ℤ} {s : ℕ} → Spanning block o s → s < shapes_most
few p = shape-few p.accepted p.shape

pub hull_of-hull-requires : goal.hull_of-hull-requires
hull_of-hull-requires c = few c.requires

pub span-extent-requires : goal.span-extent-requires
span-extent-requires c =
    let p = c.requires in
    let same = c.loop-d.invariant.same in (
      record {
        accepted = p.accepted;
        chained = chained-kept p.accepted.head (omega arith) same p.chained;
        boxes_of = boxes-kept p.accepted.head same (omega arith) p.boxes_of;
        shape = p.shape;
      },
      omega arith,
    )

pub put_extent-requires : goal.put_extent-requires
put_extent-requires c =
    let p = c.requires in (omega (arith, few p), omega (arith, p.accepted.head.few_dims))

pub loop-d-preserved : goal.loop-d-preserved
loop-d-preserved c =
    let p = c.requires in
    let few_dims = p.accepted.head.few_dims in
    let same = simp length-set at (ap length c.put_extent.ensures) in
    rw c.put_extent.ensures
    (written-more c.loop-d.outline c.span-extent.result (omega (arith, few_dims)) (omega (arith, few p, few_dims)) c.loop-d.invariant c.span-extent.ensures)

pub returns : goal.returns
returns c =
    let p = c.requires in
    let w = rw c.hull_of-hull.ensures at c.loop-d.invariant in (
      w.same,
      hull-of-spans p.accepted p.shape (boxes-kept p.accepted.head w.same (omega arith) p.boxes_of)
          (λ d m. w.is d (omega arith)),
    )
