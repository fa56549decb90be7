-- `nearby::suspect::suspected_region` meets its contract: so far no suspect whose area holds the point forbids it. Assumes nothing.
use mathlib.Core.Path.{◌≡◌, sym, ap, ◌∙◌}
use mathlib.Core.Bool.{false}
use Prim.Native.Nat.{ℕ}
use native.Mathlib.Omega.{arith}
use Rattle.std.specs.Prelude.{is_some}
use Rattle.integers.proofs.Booleans.{clash, fails, and-true, true-and}
use Rattle.integers.proofs.Below.{none_more}
use Rattle.points.specs.Area.{in_area}
use Rattle.forbid.proofs.Regions.{missed, forbids-by}
use Rattle.nearby.specs.Places.{suspect_area}
use Rattle.nearby.specs.Listing.{suspect_forbids}
use Rattle.nearby.proofs.suspect.suspected_region.Goals as goal
use Rattle.nearby.proofs.suspect.suspected_region.Goals.{then-area_holds+in_default-region_of, else-area_holds}

pub returns-in-Some-region_of : goal.returns-in-Some-region_of
unfolding suspect_forbids
returns-in-Some-region_of c =
    let suspects = rw c.in-Some.is at c.requires.suspects in
    forbids-by (λ q f. (suspects.each c.loop-e.e c.loop-e-test.true).sound q (and-true f).1) c.in-Some-region_of.ensures

pub loop-e-preserved : goal.loop-e-preserved
unfolding suspect_forbids
loop-e-preserved c =
    let a = c.args in
    let e = c.loop-e.e in
    let forbids = λ (m : ℕ). suspect_forbids a.block.now a.table.now a.nearby.i.number a.nearby.s a.suspects.now a.p m a.p in
    let misses : forbids e ≡ false = elim c.if-area_holds.branch [
      | then-area_holds+in_default-region_of w ↦ sym w.region_of.ensures.hit ∙ ap is_some w.in_default-region_of.is
      | else-area_holds w ↦ fails (λ f.
          clash (c.area_holds.ensures ∙ ap (λ (k : ℕ). in_area k (suspect_area a.suspects.now e) a.p) c.axes_of-k.ensures ∙ (and-true f).0)
          w.if-area_holds.false)
    ] in
    λ m l. none_more forbids c.loop-e.invariant misses m (omega (arith, l))

pub returns : goal.returns
unfolding suspect_forbids
returns c =
    let meets = rw c.in-Some.is at c.requires.meets in
    missed (fails (λ f.
    let m = meets f in
    clash (true-and m.holds m.forbids) (c.loop-e.invariant m.suspect (omega (arith, m.below, c.loop-e-test.false)))))
