-- `accept::no_such_shape` meets its contract: a word that is no shape's number is in no set, and the others are read. Assumes nothing.
use mathlib.Core.Path.{◌≡◌, sym, ap, ap₂, ◌∙◌}
use mathlib.Core.Bool.{true, not}
use native.Mathlib.Omega.{arith}
use lib.IntN.{pos, nat_abs}
use mir.Facts.{to_z-of_z}
use mir.Syntax.{w64}
use mir.Val.{to_z, of_z}
use Rattle.sheet.proofs.Accepted.{counted}
use Rattle.integers.specs.Integer.{nat, within}
use Rattle.integers.proofs.Machine.{cast_ok}
use Rattle.integers.proofs.Ranges.{nat-from}
use Rattle.sheet.specs.Layout.{has_shape}
use Rattle.sheet.specs.Refusal.{no_such_shape}
use Rattle.sheet.specs.Accepted.{Count}
use Rattle.words.proofs.Reading.{cast-nat}
use Rattle.accept.proofs.Turns.{fails_by, passes-by}
use Rattle.sheet.proofs.Accepted.{set-count}
use Rattle.accept.proofs.Numbers.{RowNumber, row_number, row_upto, no-shape}
use Rattle.accept.proofs.no_such_shape.Lts as lts
use Rattle.accept.proofs.no_such_shape.Reads as reads
use Rattle.accept.proofs.no_such_shape.Tie as tie
use Rattle.accept.proofs.no_such_shape.Goals as goal

abbrev Start : Type 0
Start = lts.Start tie.the-claims reads.Pre reads.Post

abbrev After-is_within : Type 0
After-is_within = lts.After-is_within tie.the-claims reads.Pre reads.Post

number : (s : Start) → RowNumber s.args.block.now s.args.table.now s.args.row
number s = row_number _ _ _ s.requires.1.whole s.requires.2

row-cast : (s : Start) → nat_abs (to_z w64 (of_z w64 s.args.row)) ≡ nat s.args.row
row-cast s = cast-nat s.args.row s.ranges.row.sfits (number s).count

shape-in : (c : After-is_within) → c.is_within.result ≡ within (pos 1) (pos 32) c.before.args.shape
shape-in c = c.is_within.ensures ∙ ap (within (pos 1) (pos 32)) (to_z-of_z c.before.ranges.shape)

shape-passed : (c : goal.Else-not-is_within) → within (pos 1) (pos 32) c.before.before.args.shape ≡ true
shape-passed c = passes-by (shape-in c.before) c.if-not-is_within.false-raw

shape-count : (c : goal.Else-not-is_within) → Count c.before.before.args.shape
shape-count c = counted 1 32 (omega arith) (shape-passed c)

shape-cast : (c : goal.Else-not-is_within) → nat_abs (to_z w64 (of_z w64 c.before.before.args.shape)) ≡ nat c.before.before.args.shape
shape-cast c = cast-nat c.before.before.args.shape c.before.before.ranges.shape.sfits (shape-count c)

pub returns-then-not-is_within : goal.returns-then-not-is_within
unfolding no_such_shape has_shape
returns-then-not-is_within c =
    let s = c.before.before in
    let n = number s in
    sym (ap not (no-shape s.args.shape (s.requires.1.sets_upto _ n.from n.upto) (fails_by (shape-in c.before) c.if-not-is_within.true-raw)))

pub overflow_cast-row : goal.overflow_cast-row
overflow_cast-row c = let n = number c.before.before in cast_ok n.count.from n.count.upto tt tt

pub row_place-requires : goal.row_place-requires
row_place-requires c =
    let s = c.before.before in
    (s.requires.0, s.requires.1.whole, rw (row-cast s) (row_upto (number s)))

pub overflow_cast-shape : goal.overflow_cast-shape
overflow_cast-shape c = let k = shape-count c.before in cast_ok k.from k.upto tt tt

pub has_shape-requires : goal.has_shape-requires
has_shape-requires c =
    let e = c.before in
    let s = e.before.before in
    let p = c.row_place.ensures.0 in
    let n = nat-from s.args.shape (shape-passed e) in
    (p, set-count s.requires.1 p.from p.upto, rw (shape-cast e) (record { from = n.0; upto = n.1 }))

pub returns : goal.returns
unfolding no_such_shape
returns c =
    let e = c.before.before in
    ap not (c.has_shape.ensures ∙ ap₂ (has_shape _ _) (c.before.row_place.ensures.1 ∙ row-cast e.before.before) (shape-cast e))
