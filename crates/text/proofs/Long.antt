-- Texts with more words than a sheet has room for: a table longer than the largest is refused as an empty one is (`refusal-long`), and a
-- block longer than the largest that a text gives is refused with 3 (`text-long`). Assumes nothing.
use mathlib.Core.Path.{◌≡◌, refl, sym, ap, ap₂, ◌∙◌, subst}
use mathlib.Core.Logic.{⊎_elim}
use mathlib.Core.Bool.{true, false, not, ◌&&◌}
use mathlib.Core.List.{List, [], ◌∷◌, ◌++◌}
use mathlib.Core.Option.{Option, none, some}
use Prim.Native.Nat.{ℕ, ◌+◌, ◌*◌, ◌/◌, ◌≤◌, ◌<◌}
use native.Mathlib.Omega.{arith}
use native.Mathlib.Nat.{mul-le-mul_right, zero-div}
use borrow.Author.Tests.{leb-true, le-ltb}
use lib.Dec.{leb, ltb}
use lib.IntN.{ℤ, pos, negsuc}
use lib.ListN.{length, length-append}
use Rattle.integers.specs.Integer.{within}
use Rattle.integers.specs.Words.{word}
use Rattle.integers.proofs.Booleans.{decide, clash, not-false, passes, and-true, or-false, false-or}
use Rattle.integers.proofs.Below.{below_or}
use Rattle.integers.proofs.Ints.{ints, true-within}
use Rattle.integers.proofs.Ranges.{nat-from}
use Rattle.sheet.specs.Layout.{block_most, table_most, dims, axes, row_len, rows}
use Rattle.sheet.specs.Refusal.{◌when◌, ◌else◌, bad_head, bad_counts, bad_block_length, bad_table_length, refusal}
use Rattle.sheet.specs.Text.{split, line, lines_of, Sheet, ended, records, after_k, read_lines, read_text}
use Rattle.sheet.proofs.Accepted.{passed, rows-by}
use Rattle.accept.proofs.Chain.{applies, past, from6, refusal-from2}
use Rattle.line.specs.Answers.{text_most}
use Rattle.line.proofs.Lines.{lines-length}

-- ---- long tables

module _ (block : List ℤ) where
  few-axes : bad_head block ≡ false → axes block ≤ 4
  unfolding bad_head axes dims
  few-axes h = (nat-from (word block 0) (not-false (or-false {a = ltb (length block) 3} h).1)).1

  bad-long : (t : List ℤ) → bad_head block ≡ false → table_most < length t → bad_table_length block t ≡ true
  unfolding row_len
  bad-long t h l =
      passes (λ e.
      let w = rows-by block t e in
      let k = few-axes h in
      let m : rows block t * (1 + 2 * axes block) ≤ 32 * (1 + 2 * axes block) = mul-le-mul_right (1 + 2 * axes block) w.few_rows in
      omega (arith, w.long))

  bad-empty : bad_table_length block [] ≡ true
  unfolding rows
  bad-empty =
      passes (λ e.
      let w = rows-by block [] e in
      let none : 0 / row_len block ≡ 0 = zero-div (row_len block) in
      omega (arith, w.some_rows))

  -- check 5 applies, if none before it does
  refusal-table : (t : List ℤ) → bad_table_length block t ≡ true
      → refusal block t ≡ (2 when bad_head block else 3 when bad_counts block else 4 when bad_block_length block else 5)
  refusal-table t e =
      refusal-from2 block t
      ∙ ap (λ (g : ℕ). 2 when bad_head block else 3 when bad_counts block else 4 when bad_block_length block else g) (applies 4 (from6 block t) e)

  pub refusal-long : (t : List ℤ) → table_most < length t → refusal block t ≡ refusal block []
  refusal-long t l =
      ⊎_elim
      (λ (h : bad_head block ≡ true). refusal-from2 block t ∙ applies 1 _ h ∙ sym (refusal-from2 block [] ∙ applies 1 _ h))
      (λ (h : bad_head block ≡ false). refusal-table t (bad-long t h l) ∙ sym (refusal-table [] bad-empty))
      (decide (bad_head block))

  pub refusal-empty : 0 < refusal block []
  refusal-empty =
      ⊎_elim
      (λ (h : 0 < refusal block []). h)
      (λ (h : refusal block [] ≤ 0).
      let none : refusal block [] ≡ 0 = omega arith in
      clash bad-empty (passed block [] none).table_length)
      (below_or 0 (refusal block []))

-- ---- long blocks: a block of a text has k from 1 to 4 and lines of the right length, so only its counts can make it long

abbrev LongBlock : Sheet → Type 0
LongBlock w = block_most < length w.block → (t : List ℤ) → refusal w.block t ≡ 3

head_in : (k n r : ℕ) (ws : List ℤ) → 1 ≤ k → k ≤ 4 → bad_head (pos k ∷ pos n ∷ pos r ∷ ws) ≡ false
unfolding bad_head
head_in k n r ws h g =
    let long : 3 ≤ length (pos k ∷ pos n ∷ pos r ∷ ws) = omega arith in
    false-or (le-ltb _ 3 long) (ap not (true-within {a = pos 1} {b = pos 4} {z = pos k} (omega ints) (omega ints)))

counts-out : (k n r : ℕ) (ws : List ℤ) → k ≤ 4 → length ws ≡ n * (1 + 2 * k) + r * (3 + 2 * k) → block_most < 3 + length ws
    → bad_counts (pos k ∷ pos n ∷ pos r ∷ ws) ≡ true
unfolding bad_counts
counts-out k n r ws h e l =
    passes (λ f.
    let a = and-true {a = within (pos 1) (pos 128) (pos n)} (not-false f) in
    let p : n * (1 + 2 * k) ≤ 128 * (1 + 2 * k) = mul-le-mul_right (1 + 2 * k) (nat-from (pos n) a.0).1 in
    let q : r * (3 + 2 * k) ≤ 32 * (3 + 2 * k) = mul-le-mul_right (3 + 2 * k) (nat-from (pos r) a.1).1 in
    omega arith)

ended_some : (ls : List (List ℕ)) (w v : Sheet) → ended ls w ≡ some v → w ≡ v
unfolding ended
ended_some [] w v e = let y : ◌≡◌ {A = ℕ} 0 1 = cc in absurd (omega arith)
ended_some ([] ∷ []) w v e = cc
ended_some ([] ∷ (l ∷ ls)) w v e = let y : ◌≡◌ {A = ℕ} 0 1 = cc in absurd (omega arith)
ended_some ((b ∷ bs) ∷ ls) w v e = let y : ◌≡◌ {A = ℕ} 0 1 = cc in absurd (omega arith)

records-long : (k : ℕ) (ls : List (List ℕ)) (w : Sheet) → 1 ≤ k → k ≤ 4 → records k ls ≡ some w → LongBlock w
unfolding records
records-long k ls w h g e =
    let bs = lines_of 66 (1 + 2 * k) ls in
    let rs = lines_of 82 (3 + 2 * k) bs.rest in
    let os = lines_of 79 (1 + 2 * k) rs.rest in
    let ws = bs.words ++ rs.words in
    let size : length ws ≡ bs.count * (1 + 2 * k) + rs.count * (3 + 2 * k) =
    length-append bs.words rs.words ∙ ap₂ ◌+◌ (lines-length 66 (1 + 2 * k) ls) (lines-length 82 (3 + 2 * k) bs.rest) in
    let block = pos k ∷ pos bs.count ∷ pos rs.count ∷ ws in
    subst LongBlock (ended_some os.rest (record { block = block; table = os.words }) w e)
    (λ l t.
    refusal-from2 block t
    ∙ past 2 _ (head_in k bs.count rs.count ws h g)
    ∙ applies 2 _ (counts-out k bs.count rs.count ws g size (omega arith)))

head-short : (z : ℤ) → LongBlock (record { block = z ∷ []; table = [] })
head-short z h = absurd (omega arith)

after-long : (ws : List ℤ) (ls : List (List ℕ)) (w : Sheet) → after_k ws ls ≡ some w → LongBlock w
unfolding after_k
after-long [] ls w e = let y : ◌≡◌ {A = ℕ} 0 1 = cc in absurd (omega arith)
after-long (negsuc k ∷ ws) ls w e = let q : record { block = negsuc k ∷ []; table = [] } ≡ w = cc in subst LongBlock q (head-short (negsuc k))
after-long (pos k ∷ ws) ls w e =
    ⊎_elim
    (λ (h : (leb 1 k && leb k 4) ≡ true).
    let a = and-true {a = leb 1 k} h in
    records-long k ls w (leb-true 1 k a.0) (leb-true k 4 a.1) (rw (h, after_k) at e))
    (λ (h : (leb 1 k && leb k 4) ≡ false).
    let f : some (record { block = pos k ∷ []; table = [] }) ≡ some w = rw (h, after_k) at e in
    let q : record { block = pos k ∷ []; table = [] } ≡ w = cc in
    subst LongBlock q (head-short (pos k)))
    (decide (leb 1 k && leb k 4))

lines_long : (ls : List (List ℕ)) (w : Sheet) → read_lines ls ≡ some w → LongBlock w
unfolding read_lines
lines_long [] w e = let y : ◌≡◌ {A = ℕ} 0 1 = cc in absurd (omega arith)
lines_long (l ∷ []) w e = let y : ◌≡◌ {A = ℕ} 0 1 = cc in absurd (omega arith)
lines_long (l ∷ (m ∷ ls)) w e = by-line (line 75 1 l) refl
  where
    by-line : (o : Option (List ℤ)) → line 75 1 l ≡ o → LongBlock w
    by-line none h = let f : none ≡ some w = rw (h, read_lines) at e in let y : ◌≡◌ {A = ℕ} 0 1 = cc in absurd (omega arith)
    by-line (some ws) h = after-long ws (m ∷ ls) w (rw (h, read_lines) at e)

pub text-long : (text : List ℕ) (w : Sheet) → read_text text ≡ some w → LongBlock w
unfolding read_text
text-long text w e =
    ⊎_elim
    (λ (h : leb (length text) text_most ≡ true). lines_long (split 10 text) w (rw (h, read_text) at e))
    (λ (h : leb (length text) text_most ≡ false).
    let f : none ≡ some w = rw (h, read_text) at e in let y : ◌≡◌ {A = ℕ} 0 1 = cc in absurd (omega arith))
    (decide (leb (length text) text_most))
