-- `answer` meets its contract: what reading handed back is refused or settled, and what that prints is put. Assumes nothing.
use Rattle.std.proofs.Common.{rules, ◌≡◌, ◌≤◌, ℕ, List, [], length, sym, ◌∙◌, arith, length-take-le}
use Rattle.std.specs.Prelude.{Ok, Err}
use Rattle.sheet.specs.Layout.{block_most, table_most}
use Rattle.sheet.specs.Text.{reading}
use Rattle.text.specs.Answers.{reading_of}
use Rattle.text.specs.declared.Reading.{Reading}
use Rattle.room.proofs.Printed.{block_in, table_in, block_room, table-room, printed-refused, printed-settled}
use Rattle.room.proofs.Whole.{answered}
use Rattle.room.proofs.answer.Goals as goal

-- the words in use lie within the two arrays
module _ (text : List ℕ) (r : Reading) (e : Ok r ≡ reading_of (reading text)) where
  table-long : r.table_len ≡ length (table_in r)
  table-long = sym (length-take-le _ r.table (table-room text r e))

pub shared_ref_as_front-block : goal.shared_ref_as_front-block
shared_ref_as_front-block c =
    let long : length c.in-Ok.r.block ≡ block_most = search rules in
    let fits = block_room _ _ (sym c.in-Ok.is ∙ c.read_text.ensures) in
    omega arith

pub slice_bounds-words-end : goal.slice_bounds-words-end
slice_bounds-words-end c = table-room _ _ (sym c.in-Ok.is ∙ c.read_text.ensures)

pub slice_bounds-table-end : goal.slice_bounds-table-end
slice_bounds-table-end c = table-long _ _ (sym c.in-Ok.is ∙ c.read_text.ensures)

-- what is printed for what settling leaves
pub returns-in-Ok : goal.returns-in-Ok
returns-in-Ok c =
    let text = c.args.text.now in
    let r = c.in-Ok.r in
    let told = sym c.in-Ok.is ∙ c.read_text.ensures in
    let left = c.settle-found.new.table in
    let long : length left ≡ r.table_len = c.settle-found.auto.table ∙ sym (table-long text r told) in
    let full : length r.table ≡ table_most = search rules in
    let few : length left ≤ table_most = omega (arith, table-room text r told) in
    let all = answered text c.settle-found.result (block_in r) left c.write_answer.ensures (search rules)
    (printed-settled text r told c.settle-found.ensures.0 c.settle-found.ensures.1 few) in
    record { put = all.0; prefix_len = all.1 }

pub returns-in-Err : goal.returns-in-Err
returns-in-Err c =
    let text = c.args.text.now in
    let told = sym c.in-Err.is ∙ c.read_text.ensures in
    let all = answered text (Err c.in-Err.g) [] [] c.write_answer-in-Err.ensures (search rules) (printed-refused text told [] []) in
    record { put = all.0; prefix_len = all.1 }
