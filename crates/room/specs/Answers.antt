-- What the program prints: for a finding of settling, with block and table as settling left them; and for a text, which it may not have
-- read to its end. Assumes nothing.
use Rattle.std.specs.Prelude.{Result, Ok, Err, Bool, true, false, List, [], ◌∷◌, ◌++◌, ℕ, ℤ, pos}
use Rattle.std.proofs.Math.Option.{none, some}
use Rattle.sheet.specs.Text.{ascii, commas, printed_for, printed}
use Rattle.sheet.specs.Refusal.{refusal_number}
use Rattle.sheet.specs.declared.Refusal.{Refusal}

-- the bytes of room for an answer: proofs/Printed shows that they are enough (`printed-few`)
abbrev pub answer_most : ℕ
answer_most = 13000

-- what is printed for a finding of settling, with block and table as settling left them
unfoldable pub printed_of : Result Bool Refusal → List ℤ → List ℤ → List ℕ
printed_of (Ok true) block table = printed_for 0 block (some table)
printed_of (Ok false) block table = printed_for 0 block none
printed_of (Err g) block table = ascii "REFUSED" ++ commas (pos (refusal_number g) ∷ [])

-- a text that was read to its end is answered; one that was not is refused with 1, whatever was read of it
unfoldable pub response : Bool → List ℕ → List ℕ
response true text = printed text
response false text = ascii "REFUSED" ++ commas (pos 1 ∷ [])
