-- `capi::zk_row_span` meets its contract: the row's span lies in the table, so that its words keep their numbers. Assumes nothing.
use mathlib.Core.Path.{◌≡◌, ap, ◌∙◌}
use Prim.Native.Nat.{◌+◌, ◌^◌, ◌≤◌, ◌<◌}
use native.Mathlib.Omega.{arith}
use lib.IntN.{pos}
use lib.ListN.{length}
use mir.Facts.{to_z-of_z, to_z_pos}
use mir.Syntax.{w64}
use Rattle.integers.proofs.Machine.{fits_word}
use Rattle.sheet.specs.Refusal.{row_slice, row_start}
use Rattle.accept.proofs.Slices.{slice-ends}
use Rattle.accept.specs.declared.Span.{Span}
use Rattle.capi.proofs.zk_row_span.Lts as lts
use Rattle.capi.proofs.zk_row_span.Reads as reads
use Rattle.capi.proofs.zk_row_span.Tie as tie
use Rattle.capi.proofs.zk_row_span.Goals as goal

abbrev Start : Type 0
Start = lts.Start tie.the-claims reads.Pre reads.Post

abbrev After-row_span-span : Type 0
After-row_span-span = lts.After-row_span tie.the-claims reads.Pre reads.Post

abbrev IsSpan : Start → Span → Type 0
IsSpan s r = let a = s.args in
    (r.start ≡ row_start a.block.now a.table.now a.row)
    × (r.length ≡ length (row_slice a.block.now a.table.now a.row))

module _ (c : After-row_span-span) where
  span : IsSpan c.before c.row_span-span.result
  span = simp (to_z-of_z c.ranges.row) at c.row_span-span.ensures

  inside : c.row_span-span.result.start + c.row_span-span.result.length ≤ length c.args.table.now
  inside = let a = c.args in omega (arith, span.0, span.1, slice-ends a.block.now a.table.now a.row)

  small : c.row_span-span.result.start + c.row_span-span.result.length < 2 ^ 63
  small = omega (arith, inside, c.well_formed)

pub overflow_cast-result : goal.overflow_cast-result
overflow_cast-result c = let l = small c.before in fits_word _ (omega (arith, l))

pub overflow_cast-result-2 : goal.overflow_cast-result-2
overflow_cast-result-2 c = let l = small c.before.before in fits_word _ (omega (arith, l))

pub returns : goal.returns
returns c =
    let r = c.before.before in
    let l = small r in
    let p = span r in
    let a : r.row_span-span.result.start < 2 ^ 63 = omega (arith, l) in
    let b : r.row_span-span.result.length < 2 ^ 63 = omega (arith, l) in
    (to_z_pos w64 a ∙ ap pos p.0, to_z_pos w64 b ∙ ap pos p.1)
