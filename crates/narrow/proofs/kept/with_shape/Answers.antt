-- `kept::with_shape` meets its contract: a shape without a point leaves the ends as they are (proofs/OneShape). Assumes nothing.
use mathlib.Core.Path.{sym, ◌∙◌}
use mathlib.Core.Logic.{inl}
use native.Mathlib.Numerals.{add-one}
use Rattle.nearby.proofs.Nothing.{nothing-forbids}
use Rattle.narrow.proofs.OneShape.{box-empty, box-forbidden, box-open, is_kept, to-widen}
use Rattle.narrow.proofs.kept.with_shape.Goals as goal

pub returns-then-not-holds : goal.returns-then-not-holds
returns-then-not-holds c =
    box-empty c.requires.0 c.requires.1 (rw add-one at c.cut_box-cut.ensures)
    (rw c.axes_of.ensures at (sym c.holds.ensures ∙ c.if-not-holds.true))

pub returns-then-lists_nothing : goal.returns-then-lists_nothing
returns-then-lists_nothing c =
    let list = c.gather-nearby.ensures in
    box-open c.requires.0 c.requires.1 (rw add-one at c.cut_box-cut.ensures)
    (rw c.axes_of.ensures at (sym c.holds.ensures ∙ c.if-not-holds.false))
    (λ p h. rw (list.1, list.2, add-one) at (nothing-forbids list.0 (sym c.lists_nothing.ensures ∙ c.if-lists_nothing.true) p (rw list.1 h)))
    c.take_in.ensures c.take_in-then-lists_nothing.ensures

pub returns-in_default : goal.returns-in_default
returns-in_default c =
    let list = c.gather-nearby.ensures in
    box-forbidden c.requires.0 c.requires.1 (rw add-one at c.cut_box-cut.ensures) (rw (list.1, list.2, add-one) at c.in_default.ensures.0)

pub widen-requires : goal.widen-requires
widen-requires c =
    let list = c.gather-nearby.ensures in
    to-widen c.requires.0 c.requires.1 (rw add-one at c.cut_box-cut.ensures)
    (rw c.axes_of.ensures at (sym c.holds.ensures ∙ c.if-not-holds.false)) c.in-Some.ensures.1 list.1 list.2
    c.in-Some.p (rw (list.1, list.2, add-one) at c.in-Some.ensures.0.free) c.take_in-2.ensures (c.take_in-2.auto.ends ∙ c.requires.0.long)

pub returns : goal.returns
returns c =
    let list = c.gather-nearby.ensures in
    let edges = rw (list.1, list.2, add-one) at c.widen.ensures in (
      is_kept c.requires.0 c.requires.1 (rw add-one at c.cut_box-cut.ensures)
          c.in-Some.p (rw (list.1, list.2, add-one) at c.in-Some.ensures.0.free),
      λ flip d h. inl (edges flip d h),
    )
