-- `nearby::gather::add_rows` meets its contract: so far the rows passed are listed. Assumes nothing.
use Prim.Native.Nat.{suc}
use Rattle.integers.specs.Below.{any_below}
use Rattle.sheet.specs.Allowed.{row_forbids}
use Rattle.nearby.specs.Adding.{Open, Grows}
use Rattle.nearby.proofs.gather.add_rows.Given as goal

abbrev pub invariant-loop-j : goal.invariant-loop-j
invariant-loop-j l =
    Open l.block l.table l.q.i.number l.q.s l.suspects l.known l.found
    × Grows l.block l.table l.q.i.number l.q.s (λ p. any_below l.j (λ m. row_forbids l.block l.table l.r.number p l.q.i.number l.q.s (suc m)))
    l.initial.suspects l.initial.known l.initial.found l.suspects l.known l.found
