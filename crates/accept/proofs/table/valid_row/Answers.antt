-- `accept::table::valid_row` meets its contract: the three tests of the definition, in its order. Assumes nothing.
use mathlib.Core.Path.{◌≡◌, sym, ap, ◌∙◌}
use Prim.Native.Nat.{◌-◌, ◌^◌}
use native.Mathlib.Omega.{arith}
use lib.IntN.{pos}
use Rattle.sheet.proofs.Accepted.{counted}
use Rattle.integers.specs.Integer.{within}
use Rattle.sheet.specs.Layout.{shape_set, valid_row}
use Rattle.words.proofs.Reading.{read_back}
use Rattle.accept.proofs.Turns.{fails_by, passes-by}
use Rattle.accept.proofs.table.valid_row.Lts as lts
use Rattle.accept.proofs.table.valid_row.Reads as reads
use Rattle.accept.proofs.table.valid_row.Tie as tie
use Rattle.accept.proofs.table.valid_row.Goals as goal

abbrev After-valid_set : Type 0
After-valid_set = lts.After-valid_set tie.the-claims reads.Pre reads.Post

set-in : (c : After-valid_set) → let a = c.before.before.args in
    c.valid_set.result ≡ within (pos 1) (pos (2 ^ 32 - 1)) (shape_set a.block.now a.table.now a.i.number)
set-in c =
    let w = c.before.shape_set_of in
    c.valid_set.ensures ∙ ap (within (pos 1) (pos (2 ^ 32 - 1))) (read_back w.ensures w.type_inv)

pub returns-then-not-valid_set : goal.returns-then-not-valid_set
unfolding valid_row
returns-then-not-valid_set c = sym (rw (fails_by (set-in c.before) c.if-not-valid_set.true-raw))

pub shapes_boxed-requires : goal.shapes_boxed-requires
shapes_boxed-requires c =
    let s = c.before.before.before.requires in
    record {
      place = s.0;
      set_count = counted 1 4294967295 (omega arith) (passes-by (set-in c.before) c.if-not-valid_set.false-raw);
      flags_of = s.1;
    }

pub returns-then-shapes_boxed : goal.returns-then-shapes_boxed
unfolding valid_row
returns-then-shapes_boxed c =
    let f = c.before in
    let e = f.before.before in
    rw (passes-by (set-in e.before) e.if-not-valid_set.false-raw, sym f.before.shapes_boxed.ensures ∙ f.if-shapes_boxed.true) c.valid_ranges.ensures

pub returns-else-shapes_boxed : goal.returns-else-shapes_boxed
unfolding valid_row
returns-else-shapes_boxed c =
    let e = c.before.before in
    rw (passes-by (set-in e.before) e.if-not-valid_set.false-raw, sym c.before.shapes_boxed.ensures ∙ c.if-shapes_boxed.false) c.if-shapes_boxed.false
