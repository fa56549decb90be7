-- `kept::with_next` meets its contract: the shape joins the set where it has a point. Assumes nothing.
use mathlib.Core.Path.{◌≡◌, sym, ◌∙◌}
use mathlib.Core.Bool.{true, false}
use Prim.Native.Nat.{◌+◌}
use native.Mathlib.Omega.{arith}
use Rattle.narrow.proofs.KeptTo.{kept-so_far, member-shape, below_next, kept_next, kept-skip}
use Rattle.narrow.proofs.kept.with_next.Goals as goal

pub has_member-requires : goal.has_member-requires
has_member-requires c = c.requires.0.below

pub returns-then-not-has_member : goal.returns-then-not-has_member
returns-then-not-has_member c =
    let member = member-shape c.args.block.now c.args.table.now c.args.i.number c.args.s c.requires.1 in
    kept-skip _ _ _ _ _ _ (kept-so_far c.requires.0 c.requires.2) (sym (c.has_member.ensures ∙ member) ∙ c.if-not-has_member.true)

pub with_shape-requires : goal.with_shape-requires
with_shape-requires c =
    let member = member-shape c.args.block.now c.args.table.now c.args.i.number c.args.s c.requires.1 in
    (c.requires.0, sym (c.has_member.ensures ∙ member) ∙ c.if-not-has_member.false)

pub with_member-requires : goal.with_member-requires
with_member-requires c = (c.requires.0.below, below_next _ _ _ _ _ _ (kept-so_far c.requires.0 c.requires.2))

pub returns-then-with_shape : goal.returns-then-with_shape
returns-then-with_shape c =
    rw c.with_member.ensures (kept_next _ _ _ _ _ _ (kept-so_far c.requires.0 c.requires.2) true
    (sym c.with_shape.ensures.0 ∙ c.if-with_shape.true) c.with_shape.ensures.1)

pub returns-else-with_shape : goal.returns-else-with_shape
returns-else-with_shape c =
    let q : c.args.shapes + 0 ≡ c.args.shapes = omega arith in
    rw q at (kept_next _ _ _ _ _ _ (kept-so_far c.requires.0 c.requires.2) false
    (sym c.with_shape.ensures.0 ∙ c.if-with_shape.false) c.with_shape.ensures.1)
