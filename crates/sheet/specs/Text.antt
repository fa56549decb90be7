-- Document 01, "The text program": the form of a text, what reading it hands back (checks 1 to 8), and what the program prints.
-- A text is the list of its bytes. Assumes nothing.
use Rattle.std.specs.Prelude.{true, false, cond, ◌&&◌, List, [], ◌∷◌, ◌++◌, ℕ, zero, suc, ◌+◌, ◌-◌, ◌*◌, ◌/◌, ◌%◌, eqb, leb, ltb, length}
use Rattle.std.specs.Prelude.{take, drop, replicate, ℤ, pos, negsuc}
use Rattle.std.proofs.Math.Option.{Option, none, some}
use Prim.Native.Char.{code}
use Prim.Native.String as S
use Rattle.integers.specs.Integer.{minus}
use Rattle.sheet.specs.Layout.{block_most, table_most, row_len, rows}
use Rattle.sheet.specs.Settle.{settle_of}
use Rattle.sheet.specs.Refusal.{refusal}

-- the bytes of a text in quotes
unfoldable pub ascii : S.String → List ℕ
ascii S.[] = []
ascii (S.◌∷◌ c cs) = code c ∷ ascii cs

-- ---- the form

-- the parts of a text between the bytes sep: one more than there are such bytes
unfoldable pub join_head : ℕ → List (List ℕ) → List (List ℕ)
join_head b [] = (b ∷ []) ∷ []
join_head b (p ∷ ps) = (b ∷ p) ∷ ps

unfoldable pub split : ℕ → List ℕ → List (List ℕ)
split sep [] = [] ∷ []
split sep (b ∷ bs) = elim (eqb b sep) [ true ↦ [] ∷ split sep bs | false ↦ join_head b (split sep bs) ]

-- each byte a digit, after digits of value n
unfoldable pub digits_from : ℕ → List ℕ → Option ℕ
digits_from n [] = some n
digits_from n (b ∷ bs) = elim (leb 48 b && leb b 57) [ true ↦ digits_from (n * 10 + (b - 48)) bs | false ↦ none ]

-- a digit 1 to 9 and up to nine digits more
unfoldable pub positive : List ℕ → Option ℕ
positive [] = none
positive (b ∷ bs) = cond (leb 49 b && leb b 57 && leb (length bs) 9) (digits_from (b - 48) bs) none

unfoldable pub signed : (ℕ → ℤ) → Option ℕ → Option ℤ
signed f none = none
signed f (some n) = some (f n)

-- 0, or an optional minus (45) and a positive number
unfoldable pub number : List ℕ → Option ℤ
number [] = none
number (b ∷ bs) =
    cond (eqb b 48 && eqb (length bs) 0) (some (pos 0))
    (cond (eqb b 45) (signed minus (positive bs)) (signed pos (positive (b ∷ bs))))

unfoldable pub cons : Option ℤ → Option (List ℤ) → Option (List ℤ)
cons none ws = none
cons (some w) none = none
cons (some w) (some ws) = some (w ∷ ws)

unfoldable pub numbers : List (List ℕ) → Option (List ℤ)
numbers [] = some []
numbers (f ∷ fs) = cons (number f) (numbers fs)

-- the fields of a line, parted by commas (44): a letter and so many numbers
unfoldable pub fields_of : ℕ → ℕ → List (List ℕ) → Option (List ℤ)
fields_of letter count [] = none
fields_of letter count ([] ∷ fs) = none
fields_of letter count ((b ∷ bs) ∷ fs) = cond (eqb b letter && eqb (length bs) 0 && eqb (length fs) count) (numbers fs) none

unfoldable pub line : ℕ → ℕ → List ℕ → Option (List ℤ)
line letter count bytes = fields_of letter count (split 44 bytes)

-- the first lines that are of one letter: how many, their words, and the lines after them
pub record Lines : Type 0 where
  pub count : ℕ
  pub words : List ℤ
  pub rest : List (List ℕ)

unfoldable pub add_line : List ℤ → Lines → Lines
add_line ws l = record { count = suc l.count; words = ws ++ l.words; rest = l.rest }

unfoldable pub lines_of : ℕ → ℕ → List (List ℕ) → Lines
lines_of letter fields [] = record { count = 0; words = []; rest = [] }
lines_of letter fields (l ∷ ls) =
    elim (line letter fields l) [
      | none ↦ record { count = 0; words = []; rest = l ∷ ls }
      | some ws ↦ add_line ws (lines_of letter fields ls)
    ]

-- block and table
pub record Sheet : Type 0 where
  pub block : List ℤ
  pub table : List ℤ

-- nothing after the last line feed
unfoldable pub ended : List (List ℕ) → Sheet → Option Sheet
ended [] w = none
ended ([] ∷ []) w = some w
ended ([] ∷ (l ∷ ls)) w = none
ended ((b ∷ bs) ∷ ls) w = none

-- the B (66), R (82) and O (79) lines after K,k
unfoldable pub records : ℕ → List (List ℕ) → Option Sheet
records k ls =
    let bs = lines_of 66 (1 + 2 * k) ls in
    let rs = lines_of 82 (3 + 2 * k) bs.rest in
    let os = lines_of 79 (1 + 2 * k) rs.rest in
    ended os.rest
    (record { block = pos k ∷ pos bs.count ∷ pos rs.count ∷ (bs.words ++ rs.words); table = os.words })

-- a k outside 1 to 4 ends the check of form: what is read is refused by check 2
unfoldable pub after_k : List ℤ → List (List ℕ) → Option Sheet
after_k [] ls = none
after_k (negsuc k ∷ ws) ls = some (record { block = negsuc k ∷ []; table = [] })
after_k (pos k ∷ ws) ls = elim (leb 1 k && leb k 4) [ true ↦ records k ls | false ↦ some (record { block = pos k ∷ []; table = [] }) ]

-- a first line that is closed: K (75) and one number
unfoldable pub read_lines : List (List ℕ) → Option Sheet
read_lines [] = none
read_lines (l ∷ []) = none
read_lines (l ∷ (m ∷ ls)) = elim (line 75 1 l) [ none ↦ none | some ws ↦ after_k ws (m ∷ ls) ]

-- none: longer than 65,536 bytes, looked at first, or not in the form; lines are closed by line feeds (10)
unfoldable pub read_text : List ℕ → Option Sheet
read_text text = elim (leb (length text) 65536) [ true ↦ read_lines (split 10 text) | false ↦ none ]

-- ---- what reading hands back

-- checks 1 to 8
unfoldable pub refusal_read : Option Sheet → ℕ
refusal_read none = 1
refusal_read (some w) = refusal w.block w.table

unfoldable pub refusal_text : List ℕ → ℕ
refusal_text text = refusal_read (read_text text)

-- the words where there is no refusal; none of a refused text
unfoldable pub sheet_unless : ℕ → Option Sheet → Sheet
sheet_unless zero (some w) = w
sheet_unless zero none = record { block = []; table = [] }
sheet_unless (suc g) o = record { block = []; table = [] }

unfoldable pub sheet_read : List ℕ → Sheet
sheet_read text = sheet_unless (refusal_text text) (read_text text)

-- n words: those of a run, and zeros past them
unfoldable pub padded : ℕ → List ℤ → List ℤ
padded n ws = ws ++ replicate (n - length ws) (pos 0)

-- block and table, zeros past the words that are read, with the lengths in use
pub record Reading : Type 0 where
  pub refused : ℕ
  pub block : List ℤ
  pub block_used : ℕ
  pub table : List ℤ
  pub table_used : ℕ

unfoldable pub reading : List ℕ → Reading
reading text =
    record {
      refused = refusal_text text;
      block = padded block_most (sheet_read text).block;
      block_used = length (sheet_read text).block;
      table = padded table_most (sheet_read text).table;
      table_used = length (sheet_read text).table;
    }

-- ---- what the program prints

-- the decimal digits of n before the bytes bs, with fuel for each digit
unfoldable pub decimal : ℕ → ℕ → List ℕ → List ℕ
decimal zero n bs = bs
decimal (suc f) n bs = elim (ltb n 10) [ true ↦ (48 + n) ∷ bs | false ↦ decimal f (n / 10) ((48 + n % 10) ∷ bs) ]

unfoldable pub shown : ℤ → List ℕ
shown (pos n) = decimal 20 n []
shown (negsuc n) = 45 ∷ decimal 20 (suc n) []

-- each word behind a comma, and a line feed
unfoldable pub commas : List ℤ → List ℕ
commas [] = 10 ∷ []
commas (w ∷ ws) = 44 ∷ (shown w ++ commas ws)

-- rows m + 1 to m + count of the words ws
unfoldable pub row_lines : ℕ → ℕ → ℕ → List ℤ → List ℕ
row_lines len zero m ws = []
row_lines len (suc count) m ws = shown (pos (suc m)) ++ commas (take len ws) ++ row_lines len count (suc m) (drop len ws)

-- the answer on a sheet: its refusal, or what settling found
unfoldable pub printed_for : ℕ → List ℤ → Option (List ℤ) → List ℕ
printed_for zero block none = ascii "NO LAYOUT\n"
printed_for zero block (some t) =
    ascii "SETTLED" ++ commas (pos (rows block t) ∷ []) ++ row_lines (row_len block) (rows block t) 0 t
printed_for (suc g) block o = ascii "REFUSED" ++ commas (pos (suc g) ∷ [])

unfoldable pub printed : List ℕ → List ℕ
printed text =
    let block = (sheet_read text).block in
    printed_for (refusal_text text) block (settle_of block (sheet_read text).table)

-- one name that opens every definition above: `unfolding reading-and-printing`
unfoldable pub reading-and-printing : Unit {0}
unfolding ascii join_head split digits_from positive signed number cons numbers fields_of line add_line lines_of ended records after_k
    read_lines read_text refusal_read refusal_text sheet_unless sheet_read padded reading decimal shown commas row_lines printed_for
    printed
reading-and-printing = tt
