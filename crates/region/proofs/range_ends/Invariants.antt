-- `region::range_ends` meets its contract: so far the field is cut to the range of each dimension passed. Assumes nothing.
use mathlib.Core.Path.{◌≡◌}
use mathlib.Core.Bool.{Bool}
use mathlib.Core.List.{List}
use Prim.Native.Nat.{ℕ, ◌≤◌}
use lib.IntN.{ℤ}
use lib.ListN.{length}
use Rattle.integers.specs.Integer.{within}
use Rattle.integers.specs.Words.{word}
use Rattle.sheet.specs.Layout.{axes, low, high}
use Rattle.points.specs.Area.{area_words, area_of}
use Rattle.points.proofs.Fills.{Fills}
use Rattle.region.proofs.range_ends.Given as goal

-- p lies in row i's range in dimension d
abbrev pub in_range : List ℤ → List ℤ → ℕ → ℕ → List ℤ → Bool
in_range block t i d p = within (low block t i d) (high block t i d) (word p d)

abbrev pub invariant-loop-d : goal.invariant-loop-d
invariant-loop-d l = (l.d ≤ l.k) × (length l.ends ≡ area_words) × Fills (axes (l.block)) l.d (area_of l.ends) (in_range (l.block) l.table l.i.number)
