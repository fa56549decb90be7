-- `points::ends::put_area` meets its contract: so far the bounds of the dimensions passed are written. Assumes nothing.
use mathlib.Core.Path.{◌≡◌}
use Prim.Native.Nat.{ℕ, ◌+◌, ◌<◌}
use Rattle.integers.specs.Words.{word}
use Rattle.points.specs.Area.{coordinates, area_words}
use Rattle.points.specs.Ends.{SameBut}
use Rattle.points.proofs.ends.put_area.Given as goal

abbrev pub invariant-loop-d : goal.invariant-loop-d
invariant-loop-d l =
    SameBut l.at area_words l.initial.words l.words
    × ((e : ℕ) → e < l.d → word l.words (l.at + e) ≡ word l.area.low e)
    × ((e : ℕ) → e < l.d → word l.words (l.at + coordinates + e) ≡ word l.area.high e)
