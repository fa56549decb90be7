-- `placement::stands` meets its contract: the cut box holds the points of the ranges at which every room rule holds. Assumes nothing.
use mathlib.Core.Path.{◌≡◌, sym, ap, ap₂, ◌∙◌}
use mathlib.Core.Bool.{Bool, not, ◌&&◌}
use Prim.Native.Nat.{ℕ}
use Rattle.std.proofs.Common.{rules}
use Rattle.sheet.specs.Allowed.{in_ranges, rooms_hold, forbidden, allowed}
use Rattle.points.specs.Area.{in_area}
use Rattle.points.proofs.Areas.{in_small}
use Rattle.placement.proofs.stands.Goals as goal
use Rattle.placement.proofs.stands.Goals.{After-holds}

-- what the box test says
boxed : (c : After-holds) → (in_ranges c.args.block.now c.args.table.now c.args.i.number c.args.p
    && rooms_hold c.args.block.now c.args.i.number c.args.s c.args.p) ≡ c.holds.result
boxed c =
    sym (c.cut_box-cut.ensures.is _)
    ∙ ap (λ (n : ℕ). in_area n c.cut_box-cut.result c.args.p) (sym c.axes_of-k.ensures) ∙ sym c.holds.ensures

pub forbidding_region-requires : goal.forbidding_region-requires
forbidding_region-requires c =
    let w = c.requires in (
      record {
        accepted = w.accepted;
        table = w.table;
        outline = w.outline;
        own = w.shape;
        near = in_small _ _ c.cut_box-cut.ensures.small
            (ap (λ (n : ℕ). in_area n c.cut_box-cut.result c.args.p) (sym c.axes_of-k.ensures) ∙ sym c.holds.ensures ∙ c.if-holds.true);
      },
      w.row,
    )

pub returns-then-holds : goal.returns-then-holds
unfolding allowed
returns-then-holds c =
    (search rules) ∙ ap₂ ◌&&◌ (sym c.if-holds.true ∙ sym (boxed c.before.before.before.before)) (ap not c.forbidding_region.ensures.hit)

pub returns-else-holds : goal.returns-else-holds
unfolding allowed
returns-else-holds c =
    c.if-holds.false ∙ ap (λ (b : Bool). b && not (forbidden c.args.block.now c.args.table.now c.args.i.number c.args.s c.args.p))
    (sym c.if-holds.false ∙ sym (boxed c.before))
