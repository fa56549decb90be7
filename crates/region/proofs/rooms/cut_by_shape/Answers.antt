-- `rooms::cut_by_shape` meets its contract: so far the area is cut in each dimension passed that the rule names. Assumes nothing.
use mathlib.Core.Path.{◌≡◌, sym, ◌∙◌, subst}
use mathlib.Core.List.{List}
use Prim.Native.Nat.{ℕ, ◌+◌}
use native.Mathlib.Omega.{arith}
use lib.IntN.{ℤ}
use Rattle.sheet.specs.Layout.{dims, axes}
use Rattle.points.specs.Area.{Cuts, area_of}
use Rattle.points.proofs.Cut.{cuts-zero, cuts-more, cuts-same, cuts-in, cuts-out}
use Rattle.region.specs.Rooms.{shape_contained, Cutting}
use Rattle.words.specs.declared.Place.{Place}
use Rattle.region.proofs.Contained.{hull-sides}
use Rattle.region.proofs.rooms.cut_by_shape.Invariants.{CutTo}
use Rattle.region.proofs.rooms.cut_by_shape.Goals as goal
use Rattle.region.proofs.rooms.cut_by_shape.Goals.{then-names_dim, else-names_dim}

pub loop-d-init : goal.loop-d-init
loop-d-init c = (omega arith, cuts-zero _)

pub loop-d-preserved : goal.loop-d-preserved
loop-d-preserved c =
    let i = c.loop-d.invariant in
    let a = c.args in
    let P = CutTo a.block.now a.outline.now a.r.number a.s (c.loop-d.d + 1) a.ends.now in (
      omega arith,
      elim c.if-names_dim.branch [
        | then-names_dim b ↦ subst P (sym b.ends-is)
            (cuts-more _ i.1 (cuts-in (sym c.names_dim.ensures ∙ b.if-names_dim.true) b.cut_by_side.ensures))
        | else-names_dim b ↦ subst P (sym b.ends-is)
            (cuts-more _ i.1 (cuts-out _ (sym c.names_dim.ensures ∙ b.if-names_dim.false)))
      ],
    )

-- once all dimensions are passed, the area is cut to the room
whole : {block o : List ℤ} {r : Place} {s d : ℕ} (u w : List ℤ) → Cutting block o r s → d ≡ dims block → CutTo block o r.number s d u w
    → Cuts (axes block) (area_of u) (area_of w) (shape_contained block r.number s)
whole u w p q cut = cuts-same (hull-sides _ p.outline.boxes_of (p.outline.hulls _ p.shape) _) (rw q at cut)

pub returns-after-loop-d : goal.returns-after-loop-d
returns-after-loop-d c = whole c.args.ends.now c.loop-d.ends c.requires (omega (arith, c.requires.accepted.head.few_dims)) c.loop-d.invariant.1

pub returns-then-d-k : goal.returns-then-d-k
returns-then-d-k c = whole c.args.ends.now c.loop-d.ends c.requires (c.if-d-k.true ∙ c.dims_of-k.ensures) c.loop-d.invariant.1
