-- `listing::put_rows` meets its contract. The invariant: the rows from the iterator's number on, in the words that it has left, are left
-- to put. Assumes nothing.
use Rattle.std.proofs.Common.{◌≡◌}
use Rattle.std.specs.Iterator.Adapters.{zip_first, zip_second}
use Rattle.std.specs.Slice.Iter.{chunks_exact_rest, chunks_exact_size}
use Rattle.listing.proofs.Rows.{RowsLeft}
use Rattle.listing.proofs.put_rows.Given as goal

abbrev pub invariant-loop-m : goal.invariant-loop-m
invariant-loop-m l =
    let numbers = zip_first l.m-iterator in
    let rows = zip_second l.m-iterator in
    RowsLeft l.initial.out l.at l.len l.n l.table l.out l.p numbers.start (chunks_exact_rest rows)
    × (numbers.end ≡ l.n) × (chunks_exact_size rows ≡ l.len)
