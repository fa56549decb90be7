-- `stores::put_all` meets its contract. The invariant: the items from `i` on are left to put. Assumes nothing.
use Rattle.std.proofs.Common.{◌+◌, drop}
use Rattle.stores.proofs.Puts.{Left}
use Rattle.stores.proofs.put_all.Given as goal

abbrev pub invariant-loop-i : goal.invariant-loop-i
invariant-loop-i g l = Left l.initial.out l.at l.items l.out (l.at + l.i) (drop l.i l.items)
