-- `listing::put_commas` meets its contract. The invariant: the words from `w` on are left to put. Assumes nothing.
use Rattle.std.proofs.Common.{◌+◌, ◌*◌, ◌≤◌, drop}
use Rattle.stores.proofs.Puts.{Left}
use Rattle.sheet.specs.Text.{commas}
use Rattle.listing.proofs.put_commas.Given as goal

abbrev pub invariant-loop-w : goal.invariant-loop-w
invariant-loop-w l = Left l.initial.out l.at (commas l.words) l.out l.p (commas (drop l.w-index l.words)) × (l.p ≤ l.at + 22 * l.w-index)
