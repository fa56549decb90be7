-- What reading a text hands back before its words are checked; and what reading the lines after the first needs. Assumes nothing.
use Rattle.std.specs.Prelude.{cond, ◌&&◌, List, [], ◌∷◌, ℕ, ◌+◌, ◌≤◌, leb, ℤ, pos, negsuc, length, Option, Some, None}
use Rattle.std.proofs.Math.Option as math
use Rattle.std.proofs.Math.Option.{none, some}
use Rattle.integers.specs.Below.{UpTo}
use Rattle.sheet.specs.Layout.{block_most, table_most}
use Rattle.sheet.specs.Text.{Sheet}
use Rattle.line.specs.Answers.{placed, text_most}
use Rattle.form.specs.declared.Parsed.{Parsed}

-- the words of a sheet as far as there is room, with zeros past them, and how many it has
unfoldable pub filled : Sheet → Parsed
filled w = record {
  block = placed block_most w.block;
  block_len = length w.block;
  table = placed table_most w.table;
  table_len = length w.table;
}

-- the words of a text that is in the form
unfoldable pub parsed_of : math.Option Sheet → Option Parsed
parsed_of none = None
parsed_of (some w) = Some (filled w)

-- the sheet of a text whose k is outside 1 to 4: k alone
abbrev pub head_of : ℤ → Sheet
head_of k = record { block = k ∷ []; table = [] }

-- k, if it is from 1 to 4
unfoldable pub k_of : ℤ → Option ℕ
k_of (pos n) = cond (leb 1 n && leb n 4) (Some n) None
k_of (negsuc n) = None

-- the lines after the first can be read from `at` on: `at` is past the start of a text that is not too long, and at most one past its end;
-- k is from 1 to 4
pub record RecordsAhead (s : List ℕ) (at k : ℕ) : Type 0 where
  pub after_first : 1 ≤ at
  pub inside : at ≤ length s + 1
  pub text_short : length s ≤ text_most
  pub k_in : UpTo 4 k
