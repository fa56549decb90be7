-- Texts with what reading finds for them: the form's edges and the open points that docs/DECISIONS.md decides; and the sheet of document 01
-- and one with no layout. That every case is as it says, and what the program prints for these sheets, is proofs/TextsPass.antt.
-- Assumes nothing.
use Rattle.std.specs.Prelude.{Bool, true, false, List, [], ◌∷◌, ℕ, eqb}
use Prim.Native.String as S
use Rattle.sheet.specs.Text.{ascii, refusal_text}

pub record TextCase : Type 0 where
  pub text : List ℕ
  pub refusal : ℕ

unfoldable pub all_refused : List TextCase → Bool
all_refused [] = true
all_refused (c ∷ cs) = elim (eqb (refusal_text c.text) c.refusal) [ true ↦ all_refused cs | false ↦ false ]

abbrev case : S.String → ℕ → TextCase
case s g = record { text = ascii s; refusal = g }

unfoldable pub texts : List TextCase
texts =
    -- the sheet of document 01
    case "K,2\nB,1,0,0,2,2\nR,1,3,3,0,0,0,0\nR,2,3,3,0,4,0,2\nO,1,0,0,0,0\nO,1,0,3,0,3\n" 0
    -- no R line is fine; no B line is 3, also with no O line; no O line is 5
    ∷ case "K,1\nB,1,0,2\nO,1,0,0\n" 0
    ∷ case "K,1\nO,1,0,0\n" 3
    ∷ case "K,1\n" 3
    ∷ case "K,1\nB,1,0,2\n" 5
    -- a well-formed first line with k outside 1 to 4, whatever follows; not closed by its line feed it is 1
    ∷ case "K,5\n" 2
    ∷ case "K,5\nnoise" 2
    ∷ case "K,-1\n" 2
    ∷ case "K,5" 1
    -- numbers of ten digits are in the form, of eleven not
    ∷ case "K,4294967297\n" 2
    ∷ case "K,42949672970\n" 1
    ∷ case "K,1\nB,1,0,2\nO,4294967297,0,0\n" 8
    -- no leading zero, no plus, no negative zero, no empty field, no carriage return, no space
    ∷ case "K,01\n" 1
    ∷ case "K,+1\n" 1
    ∷ case "K,-0\n" 1
    ∷ case "K,\n" 1
    ∷ case "K,1\r\nB,1,0,2\r\nO,1,0,0\r\n" 1
    ∷ case "K, 1\n" 1
    -- the last line is closed; nothing but lines in their order; nothing at all is no text
    ∷ case "K,1\nB,1,0,2\nO,1,0,0" 1
    ∷ case "K,1\nO,1,0,0\nB,1,0,2\n" 1
    ∷ case "K,1\nB,1,0,2\n\nO,1,0,0\n" 1
    ∷ case "K,1\nB,1,0\nO,1,0,0\n" 1
    ∷ case "" 1
    -- a text that is both malformed and out of range is 1
    ∷ case "K,1\nB,33,0,2\nX\n" 1
    ∷ case "K,1\nB,33,0,2\nO,1,0,0\n" 6
    ∷ []

-- the sheet of document 01, and one with no layout
unfoldable pub example : List ℕ
example = ascii "K,2\nB,1,0,0,2,2\nR,1,3,3,0,0,0,0\nR,2,3,3,0,4,0,2\nO,1,0,0,0,0\nO,1,0,3,0,3\n"

unfoldable pub too_small : List ℕ
too_small = ascii "K,1\nB,1,0,2\nR,1,1,3,0,0\nR,2,1,3,0,3\nO,1,0,1\nO,1,0,1\n"
