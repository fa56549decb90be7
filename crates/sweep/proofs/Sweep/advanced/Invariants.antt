-- `advanced` is AdjustUp. The invariant: what is left of it, from position j down, gives the whole one's result.
-- Assumes nothing.
use mathlib.Core.Path.{◌≡◌}
use Rattle.sweep.specs.Rotation.{rotation}
use Rattle.sweep.specs.Moves.{advance}
use Rattle.sweep.proofs.Sweep.advanced.Given as goal

abbrev pub invariant-loop-j : goal.invariant-loop-j
invariant-loop-j l = advance (rotation l.k l.d) l.low l.high l.j l.self ≡ advance (rotation l.k l.d) l.low l.high l.k l.initial.self
