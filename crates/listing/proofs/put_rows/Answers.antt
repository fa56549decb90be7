-- `listing::put_rows` meets its contract. The invariant: the rows from the iterator's number on, in the words that it has left, are left
-- to put. Assumes nothing.
use Rattle.std.proofs.Common.{◌≡◌, inl, inr, ◌∙◌, arith}
use Rattle.std.specs.Iterator.Adapters.{zip_first}
use Rattle.listing.proofs.Rows.{rows-next, rows-last}
use Rattle.listing.proofs.put_rows.Goals as goal

pub loop-m-preserved : goal.loop-m-preserved
loop-m-preserved c =
    let h = c.in-Some.ensures.steps in
    let k = c.loop-m.invariant in
    let number : c.in-Some.m ≡ (zip_first c.loop-m.m-iterator).start = h.0.1.1 in
    let put = rw number at c.put_row-p.ensures in
    let left = rows-next k.0 _ _ (omega arith) h.1.1.0 (h.1.1.1 ∙ k.2) put in
    (rw h.0.1.2 left, h.0.0 ∙ k.1, h.1.0 ∙ k.2)

pub returns : goal.returns
returns c =
    rows-last c.loop-m.invariant.0 c.requires.some (elim c.in-None.ensures.steps [ inl x ↦ inl (omega arith) | inr x ↦ inr (omega arith) ])
