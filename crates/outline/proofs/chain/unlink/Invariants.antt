-- `outline::chain::unlink` meets its contract: the shapes below s begin at n. Assumes nothing.
use mathlib.Core.Path.{◌≡◌}
use Prim.Native.Nat.{ℕ, ◌<◌}
use lib.IntN.{pos}
use Rattle.integers.specs.Words.{word}
use Rattle.outline.specs.Places.{first_at}
use Rattle.outline.proofs.chain.unlink.Given as goal

abbrev pub invariant-loop-s : goal.invariant-loop-s
invariant-loop-s l = (t : ℕ) → t < l.s → word l.outline (first_at t) ≡ pos l.n
