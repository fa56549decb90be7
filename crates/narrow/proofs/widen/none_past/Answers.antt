-- `widen::none_past` meets its contract: a comparison with the area's own end. Assumes nothing.
use mathlib.Core.Path.{◌≡◌, sym, ◌∙◌, ap₂}
use lib.Signed.{le_z}
use mir.Facts.{to_z-of_z}
use mir.Syntax.{w64}
use mir.Val.{to_z, of_z}
use Rattle.points.specs.Ends.{end_at}
use Rattle.points.proofs.Runs.{low_of, high-of}
use Rattle.points.proofs.Sums.{bits_back}
use Rattle.narrow.proofs.widen.none_past.Lts as lts
use Rattle.narrow.proofs.widen.none_past.Reads as reads
use Rattle.narrow.proofs.widen.none_past.Tie as tie
use Rattle.narrow.proofs.widen.none_past.Goals as goal

abbrev After-end_of-end : Type 0
After-end_of-end = lts.After-end_of tie.the-claims reads.Pre reads.Post

-- the end as the code holds it
end_is : (c : After-end_of-end) → let a = c.args in
    to_z w64 (of_z w64 c.end_of-end.result) ≡ end_at a.flip a.d a.area.now
end_is c = bits_back c.end_of-end.type_inv ∙ c.end_of-end.ensures

pub returns-then-flip : goal.returns-then-flip
returns-then-flip c =
    rw c.if-flip.true (ap₂ le_z (rw c.if-flip.true at (end_is c.before) ∙ sym (high-of c.args.area.now c.requires)) (to_z-of_z c.ranges.z))

pub returns-else-flip : goal.returns-else-flip
returns-else-flip c =
    rw c.if-flip.false (ap₂ le_z (to_z-of_z c.ranges.z) (rw c.if-flip.false at (end_is c.before) ∙ sym (low_of c.args.area.now c.requires)))
