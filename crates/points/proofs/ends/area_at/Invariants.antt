-- `points::ends::area_at` meets its contract: so far the words of the dimensions passed are read. Assumes nothing.
use mathlib.Core.Path.{◌≡◌}
use Prim.Native.Nat.{ℕ, ◌+◌, ◌<◌}
use lib.ListN.{length}
use Rattle.integers.specs.Words.{word}
use Rattle.points.specs.Area.{coordinates}
use Rattle.points.proofs.ends.area_at.Given as goal

abbrev pub invariant-loop-d : goal.invariant-loop-d
invariant-loop-d l =
    (length l.low ≡ coordinates) × (length l.high ≡ coordinates)
    × ((e : ℕ) → e < l.d → word l.words (l.at + e) ≡ word l.low e) × ((e : ℕ) → e < l.d → word l.words (l.at + coordinates + e) ≡ word l.high e)
