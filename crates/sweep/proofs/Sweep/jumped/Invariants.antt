-- `jumped` lowers the jump point, word by word, to one past the last point of a region.
-- Assumes nothing.
use mathlib.Core.Path.{◌≡◌}
use Rattle.sweep.specs.Point.{nexts, lessers}
use Rattle.sweep.proofs.Points.{Made}
use Rattle.sweep.proofs.Sweep.jumped.Given as goal

abbrev pub invariant-loop-e : goal.invariant-loop-e
invariant-loop-e l = (l.self.candidate ≡ l.initial.self.candidate) × (l.self.live ≡ l.initial.self.live)
    × Made l.initial.self.jump (lessers l.initial.self.jump (nexts l.last)) l.self.jump l.e
