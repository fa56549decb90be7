-- `layout::lower::halve` meets its contract: the split lies halfway between the rest's least value and the best's. Assumes nothing.
use mathlib.Core.Path.{◌≡◌, sym, ap₂, ◌∙◌, subst}
use mathlib.Core.List.{List}
use Prim.Native.Nat.{ℕ, suc, ◌/◌, ◌%◌}
use lib.IntN.{ℤ}
use lib.Signed.{◌≤ℤ◌, ◌<ℤ◌}
use mir.Facts.{to_z-of_z}
use Rattle.integers.proofs.Ints.{ints}
use Rattle.integers.proofs.Machine.{fits_word}
use Rattle.sheet.specs.FirstLayout.{number_at}
use Rattle.splits.specs.Splits.{SplitAt}
use Rattle.splits.specs.declared.Split.{Split}
use Rattle.layout.specs.Lowering.{LeastOf, Lowering, Probed, Halved}
use Rattle.layout.proofs.Halves.{least_read, on-rest, on-best, middle, halved_none, halved-by}
use Rattle.layout.proofs.lower.halve.Goals as goal

pub least_of-low-requires : goal.least_of-low-requires
least_of-low-requires c = on-rest c.args.block.now c.requires

pub least_of-high-requires : goal.least_of-high-requires
least_of-high-requires c = on-best c.args.block.now c.requires

pub returns-then-high-low : goal.returns-then-high-low
returns-then-high-low c =
    let low = least_read c.least_of-low.ensures in
    let high = least_read c.least_of-high.ensures in
    halved_none c.args.block.now c.requires (omega (ints, low, high, c.if-high-low.true))

-- the split of the rest, and what is found there, of number m as `least_of` gives it
module _ {block rest best : List ℤ} {m : ℕ} (x : Lowering block m rest best) (s : Split) (is : LeastOf block rest m s) (z : ℤ)
    (from : number_at block rest m ≤ℤ z) (less : z <ℤ number_at block best m) where
  split : ℕ → ℕ → Split
  split i k = record { row = i; column = k; at = z }

  splits : SplitAt block rest s.row s.column z
  splits = rw (is.row, is.column) (middle block x z from less)

  halves : {r b : List ℤ} → Probed block rest best (record { row = s.row; column = s.column; at = z }) r b → Halved block m rest best r b
  halves p = halved-by block x z from less (rw (is.row, is.column) at p)

pub probe-requires : goal.probe-requires
probe-requires c =
    let low = least_read c.least_of-low.ensures in
    let high = least_read c.least_of-high.ensures in
    let at = c.halfway-at.ensures in
    let z = to_z-of_z (fits_word c.halfway-at.result c.halfway-at.type_inv) in (
      c.requires.small,
      splits c.requires _ c.least_of-low.ensures _ (omega (ints, low, at.0, z)) (omega (ints, high, at.1, z)),
      c.requires.placed.inside.as_long,
    )

pub returns : goal.returns
returns c =
    let low = least_read c.least_of-low.ensures in
    let high = least_read c.least_of-high.ensures in
    let at = c.halfway-at.ensures in
    let z = to_z-of_z (fits_word c.halfway-at.result c.halfway-at.type_inv) in
    halves c.requires _ c.least_of-low.ensures _ (omega (ints, low, at.0, z)) (omega (ints, high, at.1, z)) c.probe.ensures
