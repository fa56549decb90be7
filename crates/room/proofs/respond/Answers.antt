-- `respond` meets its contract. Assumes nothing.
use mir.Facts.{to_z-of_z}
use Rattle.std.proofs.Common.{rules, ◌≡◌, ◌≤◌, [], ◌∷◌, ◌++◌, length, pos, arith, FitsSigned, w64}
use Rattle.std.specs.Prelude.{Err}
use Rattle.sheet.specs.Refusal.{refusal_number}
use Rattle.sheet.specs.Text.{ascii, commas}
use Rattle.sheet.specs.declared.Refusal.TheVariants.{BadText}
use Rattle.room.specs.Answers.{answer_most, printed_of, response}
use Rattle.room.proofs.Printed.{printed-few}
use Rattle.room.proofs.Whole.{put-counts}
use Rattle.room.proofs.respond.Goals as goal

-- the refusal's bytes have room
refused-few : length (ascii "REFUSED" ++ commas (pos 1 ∷ [])) ≤ answer_most
unfolding printed_of refusal_number
refused-few = printed-few (Err BadText) [] [] (omega arith)

pub returns-in-Ok-clause-put : goal.returns-in-Ok-clause-put
unfolding response
returns-in-Ok-clause-put c = rw c.in-Ok.is c.answer.ensures.put

pub returns-in-Err : goal.returns-in-Err
unfolding response refusal_number
returns-in-Err c =
    let room : length c.args.out.now ≡ answer_most = search rules in
    let fits : FitsSigned w64 c.from.result = search rules in
    let put = rw (to_z-of_z fits, c.from.ensures) at c.put_refused.ensures in
    record { put = rw c.in-Err.is put; prefix_len = put-counts put (omega (arith, refused-few)) }
