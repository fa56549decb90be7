-- `line::lines_into` meets its contract. The invariant: the lines read so far and those from `p` on are the lines from `at` on.
-- Assumes nothing.
use Prim.Native.Nat.{◌+◌, ◌-◌}
use lib.ListN.{length}
use Rattle.line.proofs.Lines.{Walk}
use Rattle.line.proofs.lines_into.Given as goal

abbrev pub invariant-loop-p : goal.invariant-loop-p
invariant-loop-p l = Walk l.s l.at l.letter l.n l.initial.out l.to l.out l.c l.p l.t

abbrev pub decreases-loop-p : goal.decreases-loop-p
decreases-loop-p l = length l.s + 1 - l.p
