-- `accept::row_slice` meets its contract: the row's span lies in the table, also when refused. Assumes nothing.
use mathlib.Core.Path.{◌≡◌, refl, sym}
use Prim.Native.Nat.{◌+◌, ◌≤◌}
use native.Mathlib.Omega.{arith}
use native.Mathlib.Nat.{add-sub_cancel_left}
use lib.ListN.{length}
use mir.Facts.{to_z-of_z}
use Rattle.sheet.specs.Refusal.{row_slice, row_start}
use Rattle.accept.proofs.Slices.{slice-ends, slice-part}
use Rattle.accept.specs.declared.Span.{Span}
use Rattle.accept.proofs.row_slice.Lts as lts
use Rattle.accept.proofs.row_slice.Reads as reads
use Rattle.accept.proofs.row_slice.Tie as tie
use Rattle.accept.proofs.row_slice.Goals as goal

abbrev Start : Type 0
Start = lts.Start tie.the-claims reads.Pre reads.Post tie.handed_clauses

abbrev After-row_span-span : Type 0
After-row_span-span = lts.After-row_span tie.the-claims reads.Pre reads.Post tie.handed_clauses

abbrev IsSpan : Start → Span → Type 0
IsSpan s r = let a = s.args in
    (r.start ≡ row_start a.block.now a.table.now a.row)
    × (r.length ≡ length (row_slice a.block.now a.table.now a.row))

span : (c : After-row_span-span) → IsSpan c.before c.row_span-span.result
span c = simp (to_z-of_z c.before.ranges.row) at c.row_span-span.ensures

inside : (c : After-row_span-span) → c.row_span-span.result.start + c.row_span-span.result.length ≤ length c.before.args.table.now
inside c = let a = c.before.args in omega (arith, (span c).0, (span c).1, slice-ends a.block.now a.table.now a.row)

pub overflow_add-to : goal.overflow_add-to
overflow_add-to c = omega (arith, inside c.before, c.before.before.well_formed)

pub offset_bounds-table-from : goal.offset_bounds-table-from
offset_bounds-table-from c = omega (arith, inside c.before, c.before.before.well_formed)

pub slice_bounds-result-end : goal.slice_bounds-result-end
slice_bounds-result-end c = omega (arith, inside c.before)

pub returns : goal.returns
returns c =
    let a = c.before.before.before.args in
    let p = span c.before.before in
    record {
      result_value = simp (add-sub_cancel_left, p.0, p.1) (sym (slice-part a.block.now a.table.now a.row));
      place = (refl, simp p.0 (omega arith));
    }
