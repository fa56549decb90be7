-- `accept::block::valid_ends` meets its contract: the definition's cases. Assumes nothing.
use mathlib.Core.Path.{sym, ap₂, ◌∙◌}
use borrow.Author.Tests.{eq-eqb, eqb-true}
use Rattle.sheet.specs.Layout.{valid_ends}
use Rattle.words.proofs.Reading.{read_back}
use Rattle.integers.proofs.Booleans.{fails}
use Rattle.accept.specs.Parts.{valid_range}
use Rattle.accept.proofs.Words.{zero-read}
use Rattle.accept.proofs.block.valid_ends.Goals as goal

pub returns-then-has_room : goal.returns-then-has_room
unfolding valid_ends
returns-then-has_room c =
    let l = c.room_low in
    let h = c.room_high in
    rw (sym c.has_room.ensures ∙ c.if-has_room.true)
    (c.valid_range.ensures ∙ ap₂ valid_range (read_back l.ensures l.type_inv) (read_back h.ensures h.type_inv))

pub returns-then-names_dim : goal.returns-then-names_dim
unfolding valid_ends
returns-then-names_dim c =
    rw (sym c.has_room.ensures ∙ c.if-has_room.false, sym c.names_dim.ensures ∙ c.if-names_dim.true) c.valid_clearance.ensures

pub returns-then-room_low-eq0 : goal.returns-then-room_low-eq0
unfolding valid_ends
returns-then-room_low-eq0 c =
    let low = zero-read c.room_low-2.ensures c.room_low-2.type_inv in
    let h = c.room_high-then-room_low-eq0 in
    rw (sym c.has_room.ensures ∙ c.if-has_room.false, sym c.names_dim.ensures ∙ c.if-names_dim.false, sym low ∙ eq-eqb _ 0 c.if-room_low-eq0.true)
    (zero-read h.ensures h.type_inv)

pub returns-else-room_low-eq0 : goal.returns-else-room_low-eq0
unfolding valid_ends
returns-else-room_low-eq0 c =
    let low = zero-read c.room_low-2.ensures c.room_low-2.type_inv in
    let other = fails (λ t. c.if-room_low-eq0.false (eqb-true _ 0 t)) in
    rw (sym c.has_room.ensures ∙ c.if-has_room.false, sym c.names_dim.ensures ∙ c.if-names_dim.false, sym low ∙ other) other
