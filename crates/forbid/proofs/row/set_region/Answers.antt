-- `row::set_region` meets its contract: so far each shape passed forbids the point, and the area is what they share. Assumes nothing.
use mathlib.Core.Path.{sym, ◌∙◌, subst}
use Prim.Native.Nat.{ℕ, ◌+◌, ◌^◌, ◌<◌}
use native.Mathlib.Omega.{arith}
use lib.Count.{trailing_le}
use lib.IntN.{ℤ}
use mathlib.Core.List.{List}
use Rattle.words.specs.declared.Place.{Place}
use Rattle.integers.proofs.Sets.{set_below}
use Rattle.sheet.specs.Layout.{shape_set}
use Rattle.sheet.specs.Accepted.{Count}
use Rattle.sheet.proofs.Accepted.{set-count}
use Rattle.words.proofs.Shapes.{none_before, none-past}
use Rattle.points.proofs.Cut.{cuts-none}
use Rattle.forbid.specs.Region.{Versus}
use Rattle.forbid.proofs.Regions.{cut-region, missed, forbids-same, forbids-both}
use Rattle.forbid.proofs.Rows.{shapes-none, shapes-skip, shapes-more, shapes-all, set-missed}
use Rattle.forbid.proofs.row.set_region.Goals as goal
use Rattle.forbid.proofs.row.set_region.Goals.{then-has_shape+in-Some, else-has_shape}

-- row j's set is a set of shapes
is_set : {block t o : List ℤ} {r j : Place} {s : ℕ} {p : List ℤ} → Versus block t o r s j p → Count (shape_set block t j.number)
is_set w = set-count w.at_point.table w.row.from w.row.upto

pub loop-t-init : goal.loop-t-init
loop-t-init c =
    let w = c.requires.at_point in
    λ i. rw c.field-area.ensures
    (let none = shapes-none _ _ _ i _ _ _ (none_before _ _ _ c.shapes_of-set.ensures) in
    cut-region w.accepted.head.few_axes w.near (none _) (cuts-none none))

pub returns-in_default : goal.returns-in_default
returns-in_default c =
    λ i. missed (set-missed _ _ _ i _ _ (c.loop-t.t + 1) (omega arith) (sym c.has_shape.ensures ∙ c.if-has_shape.true) _
    (sym (c.in_default.ensures i).hit))

pub common-area-requires : goal.common-area-requires
common-area-requires c = (omega (arith, c.axes_of-k.ensures, c.requires.at_point.accepted.head.few_axes), (c.in-Some.ensures 0).small)

pub loop-t-preserved : goal.loop-t-preserved
loop-t-preserved c =
    λ i. elim c.if-has_shape.branch [
      | then-has_shape+in-Some w ↦ rw w.area-is
          (forbids-same (shapes-more _ _ _ i _ _ _ (sym c.has_shape.ensures ∙ w.if-has_shape.true))
          (forbids-both (c.loop-t.invariant i) (w.in-Some.ensures i) (rw c.axes_of-k.ensures at w.common-area.ensures)))
      | else-has_shape w ↦ rw w.area-is
          (forbids-same (shapes-skip _ _ _ i _ _ _ (sym c.has_shape.ensures ∙ w.if-has_shape.false)) (c.loop-t.invariant i))
    ]

pub returns-after-loop-t : goal.returns-after-loop-t
returns-after-loop-t c =
    let set = is_set c.requires in
    λ i. forbids-same (shapes-all _ _ _ i _ _ _ (omega (arith, trailing_le 32 c.shapes_of-set.result))
    (λ x h. none-past _ _ _ {s = 32} set (set_below 32 set.upto) (omega arith))) (c.loop-t.invariant i)

pub returns-then-is_below : goal.returns-then-is_below
returns-then-is_below c =
    let none = subst (λ (n : ℕ). n < 2 ^ c.loop-t.t) c.shapes_of-set.ensures (c.is_below.ensures.0 c.if-is_below.true) in
    λ i. forbids-same (shapes-all _ _ _ i _ _ _ (omega arith) (λ x h. none-past _ _ _ (is_set c.requires) none h)) (c.loop-t.invariant i)
