-- `write_row` meets its contract: so far the ranges of the dimensions passed are written. Assumes nothing.
use mathlib.Core.Bool.{true, false}
use Prim.Native.Nat.{◌+◌}
use Rattle.integers.specs.Words.{pairs_below}
use Rattle.points.specs.Ends.{end_at}
use Rattle.narrow.proofs.Writes.{Written}
use Rattle.narrow.proofs.write_row.Given as goal

abbrev pub invariant-loop-d : goal.invariant-loop-d
invariant-loop-d l = Written l.initial.table (l.at + 1) (pairs_below l.d (λ m. end_at false m l.ends) (λ m. end_at true m l.ends)) l.table l.moved
