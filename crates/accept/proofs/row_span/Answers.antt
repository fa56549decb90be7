-- `accept::row_span` meets its contract: an accepted row lies whole in the table, where its place says. Assumes nothing.
use mathlib.Core.Path.{◌≡◌, sym, ap, ◌∙◌}
use lib.IntN.{nat_abs}
use lib.ListN.{length}
use mir.Facts.{to_z-of_z}
use mir.Syntax.{w64}
use mir.Val.{to_z, of_z}
use Rattle.integers.specs.Integer.{nat}
use Rattle.integers.proofs.Machine.{cast_ok}
use Rattle.sheet.specs.Layout.{row_at}
use Rattle.sheet.specs.Refusal.{refusal_row}
use Rattle.sheet.proofs.Accepted.{accepted-head, accepted-rows}
use Rattle.sheet.proofs.Answer.{is_refused, not_refused}
use Rattle.words.proofs.Reading.{cast-nat}
use Rattle.accept.proofs.Numbers.{RowNumber, row_number, row_upto, row-accepted}
use Rattle.accept.proofs.Slices.{slice-none, slice-start, slice-length}
use Rattle.accept.proofs.row_span.Goals as goal

none : (c : goal.Else-is_err) → refusal_row c.args.block.now c.args.table.now c.args.row ≡ 0
none c = not_refused _ _ (simp (to_z-of_z c.ranges.row) at c.check_row.ensures) (sym c.is_err.ensures.value ∙ c.if-is_err.false)

number : (c : goal.Else-is_err) → RowNumber c.args.block.now c.args.table.now c.args.row
number c = let w = row-accepted _ _ _ (none c) in row_number _ _ _ (accepted-rows _ _ w.0) w.1

row-cast : (c : goal.Else-is_err) → nat_abs (to_z w64 (of_z w64 c.args.row)) ≡ nat c.args.row
row-cast c = cast-nat c.args.row c.ranges.row.sfits (number c).count

pub returns-then-is_err : goal.returns-then-is_err
returns-then-is_err c =
    let g = is_refused _ _ (simp (to_z-of_z c.ranges.row) at c.check_row.ensures) (sym c.is_err.ensures.value ∙ c.if-is_err.true) in
    let w = slice-none _ _ _ g in
    (sym w.0, sym (ap length w.1))

pub overflow_cast-row : goal.overflow_cast-row
overflow_cast-row c = let n = number c in cast_ok n.count.from n.count.upto tt tt

pub row_place-i-requires : goal.row_place-i-requires
row_place-i-requires c =
    let w = (row-accepted _ _ _ (none c)).0 in
    (accepted-head _ _ w, accepted-rows _ _ w, rw (row-cast c) (row_upto (number c)))

pub returns : goal.returns
returns c =
    let none = not_refused _ _ (simp (to_z-of_z c.ranges.row) at c.check_row.ensures) (sym c.is_err.ensures.value ∙ c.if-is_err.false) in
    let w = row-accepted _ _ _ none in
    let n = row_number _ _ _ (accepted-rows _ _ w.0) w.1 in
    let p = c.row_place-i.ensures in (
      p.0.stands ∙ ap (row_at _) (p.1 ∙ cast-nat c.args.row c.ranges.row.sfits n.count) ∙ sym (slice-start _ _ _ none),
      c.row_len-n.ensures ∙ sym (slice-length _ _ _ none),
    )
