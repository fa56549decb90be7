-- `outline::solid::span` meets its contract: the extent is that of the shape's boxes before the next one. Assumes nothing.
use mathlib.Core.Path.{refl, ap, ◌∙◌}
use native.Mathlib.Omega.{arith}
use Rattle.points.specs.Area.{min_z, max_z}
use Rattle.outline.proofs.Chains.{walk}
use Rattle.outline.proofs.Solids.{shape-few}
use Rattle.outline.proofs.Hulls.{spans-none, spans-more}
use Rattle.outline.proofs.solid.span.Goals as goal

pub first_of-next-requires : goal.first_of-next-requires
first_of-next-requires c = let p = c.requires.0 in (p.chained, shape-few p.accepted p.shape)

pub loop-next-init : goal.loop-next-init
loop-next-init c =
    let w = walk c.first_of-next.result (omega arith) c.first_of-next.ensures in
    (w.next, spans-none refl refl (λ b l. w.skips b (omega arith) l))

pub after-next-requires : goal.after-next-requires
after-next-requires c =
    let p = c.requires.0 in
    let e = rw c.in-Some.is at c.loop-next.invariant.0 in
    record { head = p.accepted.head; chained = p.chained; below = e.0; is = e.1 }

pub loop-next-preserved : goal.loop-next-preserved
loop-next-preserved c =
    let p = c.requires.0 in
    let in-k = c.requires.1 in
    let i = rw c.in-Some.is at c.loop-next.invariant in
    let hull = c.loop-next.hull in
    let box = p.boxes_of _ i.0.0 in
    let w = walk c.after-next.result (omega (arith, i.0.0)) c.after-next.ensures in (
      w.next,
      spans-more p.accepted i.0.0 in-k i.0.1 i.1
          (c.around-hull.ensures.0 ∙ ap (min_z hull.start) (c.extent_of.ensures.0 ∙ box.starts _ in-k))
          (c.around-hull.ensures.1 ∙ ap (max_z hull.end) (c.extent_of.ensures.1 ∙ box.ends _ in-k))
          (omega (arith, w.from)) (λ x m l. w.skips x (omega arith) l),
    )
