-- `placement::origin` meets its contract: the words below d are the row's low ends. Assumes nothing.
use mathlib.Core.Path.{◌≡◌}
use Prim.Native.Nat.{ℕ, ◌<◌}
use lib.ListN.{length}
use Rattle.integers.specs.Words.{word}
use Rattle.sheet.specs.Layout.{low}
use Rattle.points.specs.Area.{coordinates}
use Rattle.placement.proofs.origin.Given as goal

abbrev pub invariant-loop-d : goal.invariant-loop-d
invariant-loop-d l = (length l.p ≡ coordinates) × ((e : ℕ) → e < l.d → word l.p e ≡ low l.block l.table l.i.number e)
