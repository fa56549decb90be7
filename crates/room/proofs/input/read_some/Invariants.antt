-- `input::read_some` meets its contract: each try leaves as many bytes as were lent, and what the reader has left. Assumes nothing.
use Rattle.std.specs.Io.KnownBytes.{Keeps}
use Rattle.room.proofs.input.read_some.Given as goal

abbrev pub invariant-loop : goal.invariant-loop
invariant-loop g l = Keeps (g.R.Read.remaining l.initial.reader) (g.R.Read.remaining l.reader)
