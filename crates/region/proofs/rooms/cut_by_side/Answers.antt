-- `rooms::cut_by_side` meets its contract: the bounds of the dimension are cut to the room less the hull, in sums that fit. Assumes nothing.
use mathlib.Core.Path.{◌≡◌, refl, ap₂}
use mathlib.Core.List.{List}
use Prim.Native.Nat.{ℕ, ◌<◌}
use native.Mathlib.Omega.{arith}
use mir.Syntax.{w64}
use mir.Val.{to_z, of_z, SFits}
use lib.IntN.{ℤ, ◌-ℤ◌}
use Rattle.points.specs.Area.{reach}
use Rattle.integers.specs.Integer.{within, Within}
use Rattle.integers.specs.Words.{word}
use Rattle.integers.proofs.Machine.{bnd, ◌-ʷ◌, diff-fits, within_by}
use Rattle.sheet.specs.Layout.{dims, room_low, room_high}
use Rattle.sheet.proofs.Forbidden.{axis}
use Rattle.words.specs.declared.Place.{Place}
use Rattle.points.proofs.Sums.{sum_is}
use Rattle.points.proofs.Cut.{cuts-same}
use Rattle.outline.specs.declared.solid.Extent.{Extent}
use Rattle.outline.specs.Places.{hull_of, start_of, end_of}
use Rattle.outline.specs.Solids.{far}
use Rattle.outline.proofs.Solids.{shape-few, hull-near}
use Rattle.region.specs.Rooms.{side_contained, Cutting}
use Rattle.region.proofs.rooms.cut_by_side.Goals as goal

-- the ends of the hull and of the room in a dimension of the sheet
module _ {block o : List ℤ} {r : Place} {s d : ℕ} (p : Cutting block o r s) (in-k : d < dims block) where
  ends-near : {x : Extent} → (x.start ≡ start_of o (hull_of s) d) × (x.end ≡ end_of o (hull_of s) d) → Within far x.start × Within far x.end
  ends-near e =
      let hull = (p.outline.hulls _ p.shape).modest in (within_by e.0 (hull.starts _ in-k), within_by e.1 (hull.ends _ in-k))

  low-near : {z : ℤ} → z ≡ room_low block r.number d → Within 1000000 z
  low-near e = within_by e (p.accepted.room_lows _ _ p.rule.below in-k)

  high-near : {z : ℤ} → z ≡ room_high block r.number d → Within 1000000 z
  high-near e = within_by e (p.accepted.room_highs _ _ p.rule.below in-k)

-- a difference of two of them is in range
module _ {a b : ℤ} (x : Within 1000000 a) (y : Within far b) where
  fits : SFits w64 (to_z w64 (of_z w64 a) -ℤ to_z w64 (of_z w64 b))
  fits = diff-fits (bnd x) (bnd y) tt

  near : Within reach (to_z w64 (of_z w64 (to_z w64 (of_z w64 a) -ℤ to_z w64 (of_z w64 b))))
  near = (sum_is (bnd x -ʷ bnd y) tt refl).1

pub hull_of-requires : goal.hull_of-requires
hull_of-requires c = let p = c.requires.0 in shape-few p.accepted p.shape

pub extent_of-hull-requires : goal.extent_of-hull-requires
extent_of-hull-requires c =
    let p = c.requires.0 in (omega (arith, c.hull_of.ensures, hull-near p.accepted p.shape), omega (arith, p.accepted.head.few_dims, c.requires.1))

pub overflow_sub-low : goal.overflow_sub-low
overflow_sub-low c =
    let p = c.requires.0 in
    let k = c.requires.1 in
    let hull = ends-near p k (rw c.hull_of.ensures at c.extent_of-hull.ensures) in
    search (fits, low-near p k c.room_low.ensures, hull)

pub overflow_sub-high : goal.overflow_sub-high
overflow_sub-high c =
    let p = c.requires.0 in
    let k = c.requires.1 in
    let hull = ends-near p k (rw c.hull_of.ensures at c.extent_of-hull.ensures) in
    search (fits, high-near p k c.room_high.ensures, hull)

pub cut-requires : goal.cut-requires
cut-requires c =
    let p = c.requires.0 in
    let k = c.requires.1 in
    let hull = ends-near p k (rw c.hull_of.ensures at c.extent_of-hull.ensures) in (
      record {
        below = omega (arith, p.accepted.head.few_dims);
        low_near = search (near, low-near p k c.room_low.ensures, hull);
        high_near = search (near, high-near p k c.room_high.ensures, hull);
      },
      omega arith,
    )

pub returns : goal.returns
unfolding side_contained
returns c =
    let p = c.requires.0 in
    let k = c.requires.1 in
    let hull = rw c.hull_of.ensures at c.extent_of-hull.ensures in
    let ends = ends-near p k hull in
    let from = sum_is (bnd (low-near p k c.room_low.ensures) -ʷ bnd ends.0) tt (ap₂ ◌-ℤ◌ c.room_low.ensures hull.0) in
    let to = sum_is (bnd (high-near p k c.room_high.ensures) -ʷ bnd ends.1) tt (ap₂ ◌-ℤ◌ c.room_high.ensures hull.1) in
    cuts-same (λ x. ap₂ (λ (a b : ℤ). within a b (word x c.args.d)) from.0 to.0) (c.cut.ensures _ (axis c.args.block.now k))
