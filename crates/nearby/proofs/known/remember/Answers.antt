-- `nearby::known::remember` meets its contract: the area is put after the others, and counted. Assumes nothing.
use native.Mathlib.Omega.{arith}
use borrow.Author.Rules.{rules}
use Rattle.nearby.proofs.Remembered.{remembered, not-remembered}
use Rattle.nearby.proofs.known.remember.Goals as goal

pub returns-then-n-ge-AREAS : goal.returns-then-n-ge-AREAS
returns-then-n-ge-AREAS c = not-remembered c.requires

pub returns : goal.returns
returns c =
    let e = c.put_area.ensures in
    remembered c.count_at-n.ensures (omega (arith, c.if-n-ge-AREAS.false)) (search rules) e.0 e.1 c.put_count.ensures
