-- From k to block and table: the lines after the first, the counts before the records, and the end of the text. Assumes nothing.
use mathlib.Core.Path.{◌≡◌, refl, ap, ◌∙◌}
use mathlib.Core.Logic.{⊎_elim}
use mathlib.Core.List.{List, [], ◌∷◌, ◌++◌}
use mathlib.Core.Option.{none, some}
use Prim.Native.Nat.{ℕ, ◌+◌, ◌-◌, ◌*◌, ◌≤◌, ◌<◌}
use native.Mathlib.Omega.{arith}
use borrow.Author.Tests.{le-leb}
use lib.IntN.{ℤ, pos}
use lib.ListN.{length, take, drop, length-drop, drop_of_length-le}
use lib.Seq.{sets, length-take-le}
use Rattle.std.specs.Prelude.{Some}
use Rattle.integers.proofs.Below.{below_or}
use Rattle.stores.proofs.Stores.{sets-before}
use Rattle.stores.proofs.Puts.{put-more}
use Rattle.sheet.specs.Layout.{block_most, table_most}
use Rattle.sheet.specs.Text.{split, Sheet, ended, records}
use Rattle.line.specs.Parts.{until, parts_from}
use Rattle.line.specs.Answers.{zeros, placed, lines_from, LinesRead}
use Rattle.form.specs.Parsed.{filled, parsed_of}
use Rattle.line.specs.declared.Passed.{Passed}
use Rattle.line.proofs.Parts.{parts_none, parts_next, part-ends}

-- ---- the end of the text: one part is left, and it is empty

ended-not : (f : List ℕ) (fs : List (List ℕ)) (w : Sheet) → 0 < length f + length fs → ended (f ∷ fs) w ≡ none
unfolding ended
ended-not [] [] w h = absurd (omega arith)
ended-not [] (g ∷ fs) w h = refl
ended-not (b ∷ bs) fs w h = refl

module _ (s : List ℕ) (p : ℕ) (w : Sheet) where
  pub ended_at : p ≡ length s → ended (parts_from 10 s p) w ≡ some w
  unfolding ended parts_from split
  ended_at e = let past : length s ≤ p = omega arith in rw (le-leb p (length s) (omega arith), drop_of_length-le s past)

  pub ended-past : (p ≡ length s → ⊥) → ended (parts_from 10 s p) w ≡ none
  unfolding ended
  ended-past h =
      ⊎_elim
      (λ (l : length s < p). ap (λ (fs : List (List ℕ)). ended fs w) (parts_none 10 s l))
      (λ (l : p ≤ length s).
      let e = p + length (until 10 (drop p s)) in
      let part = take (e - p) (drop p s) in
      let next = parts_next 10 s {q = e} l refl in
      let size : length part ≡ e - p = length-take-le (e - p) (drop p s) (let k = part-ends 10 s {q = e} l refl in rw length-drop (omega arith)) in
      ap (λ (fs : List (List ℕ)). ended fs w) next
      ∙ ended-not part (parts_from 10 s (e + 1)) w
      (⊎_elim
      (λ (m : p < e). omega arith)
      (λ (m : e ≤ p).
      let more = ap length (parts_next 10 s {p = e + 1} {q = e + 1 + length (until 10 (drop (e + 1) s))} (omega arith) refl) in
      omega arith)
      (below_or p e)))
      (below_or (length s) p)

-- ---- the lines after the first, as the code has read them: b, r and o
module _ (s : List ℕ) (at k : ℕ) {block₀ block₁ block₂ table₀ table₁ : List ℤ} {b r o : Passed}
    (bs : LinesRead s at 66 (1 + 2 * k) block₀ 3 b block₁)
    (rs : LinesRead s b.next 82 (3 + 2 * k) block₁ b.end r block₂)
    (os : LinesRead s r.next 79 (1 + 2 * k) table₀ 0 o table₁) where
  abbrev counts : List ℤ
  counts = pos k ∷ pos b.count ∷ pos r.count ∷ []

  abbrev words_b : List ℤ
  words_b = (lines_from s at 66 (1 + 2 * k)).words

  abbrev words_r : List ℤ
  words_r = (lines_from s b.next 82 (3 + 2 * k)).words

  abbrev words_o : List ℤ
  words_o = (lines_from s r.next 79 (1 + 2 * k)).words

  abbrev sheet_of : Sheet
  sheet_of = record { block = counts ++ (words_b ++ words_r); table = words_o }

  records-are : records k (parts_from 10 s at) ≡ ended (parts_from 10 s o.next) sheet_of
  unfolding records
  records-are = rw (bs.left, rs.left, os.left, ← bs.counted, ← rs.counted)

  pub records-bad : (o.next ≡ length s → ⊥) → records k (parts_from 10 s at) ≡ none
  records-bad h = records-are ∙ ended-past s o.next sheet_of h

  records-good : o.next ≡ length s → records k (parts_from 10 s at) ≡ some sheet_of
  records-good h = records-are ∙ ended_at s o.next sheet_of h

  block-is : sets block₂ 0 counts ≡ sets block₀ 0 sheet_of.block
  block-is =
      let put = put-more bs.put rs.put in
      ap (λ (l : List ℤ). sets l 0 counts) put.stored ∙ sets-before block₀ 3 (words_b ++ words_r) counts refl

  block-length : r.end ≡ length sheet_of.block
  block-length = let put = put-more bs.put rs.put in omega (arith, put.past)

  -- from zeros, with the counts put last, that is the answer for this text
  pub parsed : {block : List ℤ} → block₀ ≡ zeros block_most → table₀ ≡ zeros table_most → o.next ≡ length s → block ≡ sets block₂ 0 counts
      → Some (record { block = block; block_len = r.end; table = table₁; table_len = o.end }) ≡ parsed_of (records k (parts_from 10 s at))
  unfolding parsed_of filled placed
  parsed x y h e =
      let block = e ∙ block-is ∙ ap (λ (l : List ℤ). sets l 0 sheet_of.block) x in
      let table = os.put.stored ∙ ap (λ (l : List ℤ). sets l 0 words_o) y in
      let long : o.end ≡ length words_o = omega (arith, os.put.past) in
      rw (block, block-length, table, long, records-good h)
