-- What the answers of the code stand for: a number, a line, the lines of one letter; and what reading lines needs. The definitions' option
-- is mathlib's, and the code's is std's. Assumes nothing.
use Rattle.std.specs.Prelude.{◌≡◌, List, ℕ, ◌+◌, ◌*◌, ◌≤◌, ℤ, pos, length, replicate, Option, Some, None}
use Rattle.std.proofs.Math.Option as math
use Rattle.std.proofs.Math.Option.{none, some}
use Rattle.std.proofs.lemmas.List.Edits.{sets}
use Rattle.sheet.specs.Layout.{record_most}
use Rattle.sheet.specs.Text.{lines_of, Lines}
use Rattle.stores.specs.Put.{Put}
use Rattle.line.specs.Parts.{parts_from}
use Rattle.line.specs.declared.Passed.{Passed}

abbrev pub number_of : math.Option ℤ → Option ℤ
number_of none = None
number_of (some z) = Some z

unfoldable pub zeros : ℕ → List ℤ
zeros n = replicate n (pos 0)

-- n words: those of ws as far as there is room, and zeros past them
unfoldable pub placed : ℕ → List ℤ → List ℤ
placed n ws = sets (zeros n) 0 ws

-- a line's words, with zeros past them
unfoldable pub line_of : math.Option (List ℤ) → Option (List ℤ)
line_of none = None
line_of (some ws) = Some (placed record_most ws)

-- the most bytes of a text
abbrev pub text_most : ℕ
text_most = 65536

-- the lines of one letter, with n numbers each, from a place of a text on
abbrev pub lines_from : List ℕ → ℕ → ℕ → ℕ → Lines
lines_from s at letter n = lines_of letter n (parts_from 10 s at)

-- lines of n numbers can be read from `at` on, and their words put into a run from `to` on: `at` is a place of a text that is not too long,
-- or one past its end, n is no more than a record has, and `to` is no further than the lines before `at` can have filled
pub record LinesAhead (s : List ℕ) (at n to : ℕ) : Type 0 where
  pub inside : at ≤ length s + 1
  pub text_short : length s ≤ text_most
  pub line_short : n ≤ record_most
  pub short : to ≤ record_most * at

-- the lines of one letter from `at` on were read, and their words put into a run from `to` on
pub record LinesRead (s : List ℕ) (at letter n : ℕ) (before : List ℤ) (to : ℕ) (r : Passed) (after : List ℤ) : Type 0 where
  pub counted : r.count ≡ (lines_from s at letter n).count
  pub put : Put before to (lines_from s at letter n).words r.end after
  pub left : (lines_from s at letter n).rest ≡ parts_from 10 s r.next
  pub inside : r.next ≤ length s + 1
  pub few : r.count ≤ r.next
  pub short : r.end ≤ record_most * r.next
