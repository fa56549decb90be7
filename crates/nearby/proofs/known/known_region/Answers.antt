-- `nearby::known::known_region` meets its contract: so far none of the areas passed, from the last one on, holds the point.
-- Assumes nothing.
use native.Mathlib.Omega.{arith}
use Rattle.integers.proofs.Below.{false-any}
use Rattle.nearby.specs.Known.{known_holds}
use Rattle.nearby.proofs.known.known_region.Goals as goal

pub returns : goal.returns
unfolding known_holds
returns c = record { met = tt; missed = false-any (λ m l. c.loop-e.invariant m (omega arith) l) }
