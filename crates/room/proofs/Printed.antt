-- What the program prints, from what reading handed back: the law of a refused text (`printed-refused`), that of an accepted one, whose
-- words are settled (`printed-settled`), and how long the answer is at most (`printed-few`). Assumes nothing.
use mathlib.Core.Path.{◌≡◌, refl, sym, ap, ap₂, ◌∙◌, subst}
use mathlib.Core.Bool.{Bool, true, false}
use mathlib.Core.List.{List, [], ◌∷◌, ◌++◌}
use mathlib.Core.Option.{Option, none, some}
use Prim.Native.Nat.{ℕ, zero, suc, ◌≤◌, ◌<◌}
use native.Mathlib.Omega.{arith}
use native.Mathlib.Nat.{div-le_self}
use lib.IntN.{ℤ, pos}
use lib.ListN.{length, take, length-append}
use lib.Seq.{take_all, take-append_seam}
use Rattle.std.specs.Prelude.{Result, Ok, Err, is_ok}
use Rattle.integers.specs.Below.{value_or}
use Rattle.integers.proofs.Booleans.{clash}
use Rattle.sheet.specs.Layout.{block_most, table_most, row_len, rows}
use Rattle.sheet.specs.Refusal.{refusal_number, ◌when◌, ◌else◌, bad_head, bad_counts, bad_block_length, bad_table_length, bad_box, bad_rule, bad_row, refusal}
use Rattle.sheet.specs.Settle.{settle_of}
use Rattle.sheet.specs.Answer.{answer, is_found, table_after}
use Rattle.sheet.specs.Text.{Sheet, ascii, commas, row_lines, printed_for, printed}
use Rattle.sheet.specs.Text.{read_text, refusal_read, refusal_text, sheet_unless, sheet_read, padded, reading}
use Rattle.sheet.specs.declared.Refusal.{Refusal}
use Rattle.sheet.proofs.Answer.{passed, is_refused, number_of_ground}
use Rattle.listing.proofs.Sizes.{commas-few, rows_few}
use Rattle.text.specs.Answers.{reading_of}
use Rattle.text.specs.declared.Reading.{Reading}
use Rattle.room.specs.Answers.{answer_most, printed_of}

-- ---- no refusal's number is past 16
when-most : (n : ℕ) (b : Bool) → n ≤ 16 → (n when b) ≤ 16
unfolding ◌when◌
when-most n true h = h
when-most n false h = omega arith

else-most : (g h : ℕ) → g ≤ 16 → h ≤ 16 → (g else h) ≤ 16
unfolding ◌else◌
else-most zero h p q = q
else-most (suc g) h p q = p

refusal-most : (block table : List ℤ) → refusal block table ≤ 16
unfolding refusal
refusal-most block table =
    else-most _ _ (when-most 2 (bad_head block) (omega arith))
    (else-most _ _ (when-most 3 (bad_counts block) (omega arith))
    (else-most _ _ (when-most 4 (bad_block_length block) (omega arith))
    (else-most _ _ (when-most 5 (bad_table_length block table) (omega arith))
    (else-most _ _ (when-most 6 (bad_box block) (omega arith))
    (else-most _ _ (when-most 7 (bad_rule block table) (omega arith)) (when-most 8 (bad_row block table) (omega arith)))))))

read-most : (o : Option Sheet) → refusal_read o ≤ 16
unfolding refusal_read
read-most none = omega arith
read-most (some w) = refusal-most w.block w.table

text-most : (text : List ℕ) → refusal_text text ≤ 16
unfolding refusal_text
text-most text = read-most (read_text text)

-- ---- the answers of settling

-- with its refusal g and its finding o, settling a table leaves what is printed for them
pub printed-answer : (g : ℕ) (o : Option (List ℤ)) (block table : List ℤ) → g ≤ 16
    → printed_of (answer g (is_found o)) block (table_after g table o) ≡ printed_for g block o
unfolding printed_of answer is_found table_after value_or printed_for
printed-answer zero none block table h = refl
printed-answer zero (some t) block table h = refl
printed-answer (suc g) o block table h = ap (λ (n : ℕ). ascii "REFUSED" ++ commas (pos n ∷ [])) (number_of_ground g (omega arith))

-- the room for an answer is enough for any words, in and out of their ranges
pub printed-few : (f : Result Bool Refusal) (block table : List ℤ) → length table ≤ table_most → length (printed_of f block table) ≤ answer_most
unfolding printed_of printed_for ascii rows
printed-few (Ok true) block table h =
    let n = rows (block) table in
    let few : n ≤ length table = div-le_self (length table) (row_len (block)) in
    let a = commas-few (pos n ∷ []) in
    let b = rows_few (row_len (block)) n 0 table in
    let c = length-append (commas (pos n ∷ [])) (row_lines (row_len (block)) n 0 table) in
    omega arith
printed-few (Ok false) block table h = omega arith
printed-few (Err g) block table h = let a = commas-few (pos (refusal_number g) ∷ []) in omega arith

-- ---- what an answer says of what it was made of

-- a refusal's number is the one that it was made by
number_in : {A : Type 0} → Result A Refusal → ℕ
number_in (Ok x) = 0
number_in (Err g) = refusal_number g

number-made : {A : Type 0} (n : ℕ) (x : A) {g : Refusal} → Err g ≡ answer n x → n ≤ 16 → refusal_number g ≡ n
unfolding answer number_in
number-made zero x e h = clash refl (sym (ap is_ok e))
number-made (suc n) x e h = ap number_in e ∙ number_of_ground n (omega arith)

-- what was found is what it was made of
found_in : {A : Type 0} → A → Result A Refusal → A
found_in y (Ok x) = x
found_in y (Err g) = y

found-made : {A : Type 0} (n : ℕ) (x : A) {y : A} → Ok y ≡ answer n x → y ≡ x
unfolding answer found_in
found-made zero x {y} e = ap (found_in y) e
found-made (suc n) x e = clash refl (ap is_ok e)

-- ---- the words in use

abbrev pub block_in : Reading → List ℤ
block_in r = take r.block_len r.block

abbrev pub table_in : Reading → List ℤ
table_in r = take r.table_len r.table

padded-used : (n : ℕ) (ws : List ℤ) → take (length ws) (padded n ws) ≡ ws
unfolding padded
padded-used n ws = take-append_seam ws _

padded-room : (n : ℕ) (ws : List ℤ) → length ws ≤ length (padded n ws)
unfolding padded
padded-room n ws = rw length-append (omega arith)

accepted-sheet : (o : Option Sheet) → refusal_read o ≡ 0
    → refusal ((sheet_unless (refusal_read o) o).block) (sheet_unless (refusal_read o) o).table ≡ 0
unfolding refusal_read sheet_unless
accepted-sheet none h = absurd (omega arith)
accepted-sheet (some w) h = rw h h

accepted-read : (text : List ℕ) → refusal_text text ≡ 0 → refusal (sheet_read text).block (sheet_read text).table ≡ 0
unfolding refusal_text sheet_read
accepted-read text h = accepted-sheet (read_text text) h

-- ---- a text that reading refused: its refusal's number is printed
pub printed-refused : (text : List ℕ) {g : Refusal} → Err g ≡ reading_of (reading text) → (block table : List ℤ)
    → printed_of (Err g) block table ≡ printed text
unfolding reading_of reading printed_of printed printed_for
printed-refused text {g} e block table = by-refusal (refusal_text text) refl
  where
    by-refusal : (n : ℕ) → refusal_text text ≡ n → ascii "REFUSED" ++ commas (pos (refusal_number g) ∷ []) ≡ printed text
    by-refusal zero k = let some : 0 < refusal_text text = is_refused _ _ e refl in absurd (omega arith)
    by-refusal (suc n) k = rw (number-made _ _ e (text-most text), k)

-- ---- a text that reading accepted: what it handed back
module _ (text : List ℕ) (r : Reading) (e : Ok r ≡ reading_of (reading text)) where
  none_read : refusal_text text ≡ 0
  unfolding reading_of reading
  none_read = passed (refusal_text text) _ e refl

  reading-is :
      r ≡ record {
        block = padded block_most (sheet_read text).block;
        block_len = length (sheet_read text).block;
        table = padded table_most (sheet_read text).table;
        table_len = length (sheet_read text).table;
      }
  unfolding reading_of reading
  reading-is = found-made (refusal_text text) _ e

  block_read : block_in r ≡ (sheet_read text).block
  block_read = ap (λ (x : Reading). block_in x) reading-is ∙ padded-used block_most (sheet_read text).block

  table-read : table_in r ≡ (sheet_read text).table
  table-read = ap (λ (x : Reading). table_in x) reading-is ∙ padded-used table_most (sheet_read text).table

  -- the lengths in use lie within the two arrays
  pub block_room : r.block_len ≤ length r.block
  block_room = subst (λ (x : Reading). x.block_len ≤ length x.block) (sym reading-is) (padded-room block_most (sheet_read text).block)

  pub table-room : r.table_len ≤ length r.table
  table-room = subst (λ (x : Reading). x.table_len ≤ length x.table) (sym reading-is) (padded-room table_most (sheet_read text).table)

  -- f and t are what settling its words finds, and the table after it
  abbrev checked : ℕ
  checked = refusal (block_in r) (table_in r)

  abbrev found : Option (List ℤ)
  found = settle_of (block_in r) (table_in r)

  none_found : checked ≡ refusal_text text
  none_found = ap₂ (λ (b t : List ℤ). refusal (b) t) block_read table-read ∙ accepted-read text none_read ∙ sym none_read

  pub printed-settled : {f : Result Bool Refusal} {t : List ℤ} → f ≡ answer checked (is_found found) → t ≡ table_after checked (table_in r) found
      → length t ≤ table_most → printed_of f (block_in r) (take table_most t) ≡ printed text
  unfolding printed
  printed-settled {f} {t} a b l =
      ap (printed_of f (block_in r)) (take_all table_most t l)
      ∙ ap₂ (λ (g : Result Bool Refusal) (u : List ℤ). printed_of g (block_in r) u) a b
      ∙ printed-answer checked found (block_in r) (table_in r) (refusal-most (block_in r) (table_in r))
      ∙ ap (λ (g : ℕ). printed_for g (block_in r) found) none_found
      ∙ ap₂ (λ (u v : List ℤ). printed_for (refusal_text text) (u) (settle_of (u) v)) block_read table-read
