-- `line::find` meets its contract. The invariant: a search from `i` on finds what one from `from` on does. Assumes nothing.
use Rattle.std.proofs.Common.{◌≡◌, ◌+◌, length, drop}
use Rattle.line.specs.Parts.{until}
use Rattle.line.proofs.find.Given as goal

abbrev pub invariant-loop-i : goal.invariant-loop-i
invariant-loop-i l = l.i + length (until l.b (drop l.i l.s)) ≡ l.from + length (until l.b (drop l.from l.s))
