-- `ends::take_in` meets its contract: so far the ends in the dimensions passed are taken out. Assumes nothing.
use Rattle.points.specs.Ends.{Taken}
use Rattle.points.proofs.ends.take_in.Given as goal

abbrev pub invariant-loop-d : goal.invariant-loop-d
invariant-loop-d l = Taken l.d l.initial.ends l.p l.ends
