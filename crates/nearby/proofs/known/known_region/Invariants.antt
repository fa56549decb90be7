-- `nearby::known::known_region` meets its contract: so far none of the areas passed, from the last one on, holds the point.
-- Assumes nothing.
use mathlib.Core.Path.{◌≡◌}
use mathlib.Core.Bool.{false}
use Prim.Native.Nat.{ℕ, ◌≤◌, ◌<◌}
use Rattle.sheet.specs.Layout.{axes}
use Rattle.points.specs.Area.{in_area}
use Rattle.nearby.specs.Places.{known_count, known_area}
use Rattle.nearby.proofs.known.known_region.Given as goal

abbrev pub invariant-loop-e : goal.invariant-loop-e
invariant-loop-e l =
    (m : ℕ) → l.e ≤ m → m < known_count l.known → in_area (axes l.block) (known_area l.known m) l.p ≡ false
