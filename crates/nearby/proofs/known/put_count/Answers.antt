-- `nearby::known::put_count` meets its contract: a small count is cast whole. Assumes nothing.
use mathlib.Core.Path.{ap}
use native.Mathlib.Omega.{arith}
use lib.IntN.{ℤ}
use lib.ListN.{set}
use mir.Syntax.{w64}
use mir.Facts.{to_z_pos}
use Rattle.nearby.proofs.known.put_count.Goals as goal

pub returns : goal.returns
returns c = ap (λ (z : ℤ). set c.args.known.now 0 z) (to_z_pos w64 {n = c.args.n} (omega (arith, c.requires.1)))
