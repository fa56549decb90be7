-- What reading hands back, from the words that were parsed: refused texts with zeros, an accepted one with its words. Assumes nothing.
use mathlib.Core.Path.{◌≡◌, refl, sym, ap, ◌∙◌}
use mathlib.Core.Logic.{◌⊎◌, ⊎_elim}
use mathlib.Core.Bool.{true, false}
use mathlib.Core.List.{List, [], ◌++◌}
use Rattle.std.proofs.Math.Option as math
use Rattle.std.proofs.Math.Option.{none, some}
use Rattle.std.specs.Prelude.{Option, Some, None, is_some, unwrap_or, Result, Ok, Err}
use Prim.Native.Nat.{ℕ, zero, suc, ◌+◌, ◌-◌, ◌≤◌, ◌<◌}
use native.Mathlib.Omega.{arith}
use lib.IntN.{ℤ, pos}
use lib.ListN.{length, drop, take, replicate}
use lib.Seq.{sets-eq}
use Rattle.sheet.specs.Layout.{block_most, table_most}
use Rattle.sheet.specs.Refusal.{refusal, ground}
use Rattle.sheet.specs.Answer.{answer}
use Rattle.sheet.proofs.Answer.{refused}
use Rattle.sheet.specs.declared.Refusal.{Refusal}
use Rattle.integers.proofs.Booleans.{clash}
use Rattle.text.specs.declared.Reading.{Reading}
use Rattle.sheet.specs.Text.{Sheet, read_text, refusal_read, refusal_text, sheet_unless, sheet_read, padded, reading}
use Rattle.line.specs.Answers.{zeros, placed}
use Rattle.line.proofs.Placed.{length-zeros, length-placed, take-placed}
use Rattle.form.specs.Parsed.{filled, parsed_of}
use Rattle.form.specs.declared.Parsed.{Parsed}
use Rattle.text.specs.Answers.{reading_of}
use Rattle.text.proofs.Long.{refusal-long, refusal-empty, text-long}

-- ---- zeros past the words

padded-none : (n : ℕ) → padded n [] ≡ zeros n
unfolding padded zeros
padded-none n = let e : n - 0 ≡ n = omega arith in ap (λ (i : ℕ). replicate i (pos 0)) e

drop-zeros : (k n : ℕ) → drop k (zeros n) ≡ zeros (n - k)
unfolding zeros
drop-zeros zero n = let e : n ≡ n - 0 = omega arith in ap (λ (i : ℕ). replicate i (pos 0)) e
drop-zeros (suc k) zero = let e : 0 ≡ 0 - suc k = omega arith in ap (λ (i : ℕ). replicate i (pos 0)) e
drop-zeros (suc k) (suc n) = drop-zeros k n ∙ (let e : n - k ≡ suc n - suc k = omega arith in ap (λ (i : ℕ). replicate i (pos 0)) e)

placed-padded : (n : ℕ) (ws : List ℤ) → length ws ≤ n → placed n ws ≡ padded n ws
unfolding placed padded zeros
placed-padded n ws h =
    let k = length-zeros n in
    let fits : 0 + length ws ≤ length (zeros n) = omega arith in
    let e : 0 + length ws ≡ length ws = omega arith in
    sets-eq ws (zeros n) 0 fits
    ∙ ap (λ (i : ℕ). ws ++ drop i (zeros n)) e
    ∙ ap (λ (l : List ℤ). ws ++ l) (drop-zeros (length ws) n)

-- ---- the two kinds of a reading

refused-text : (text : List ℕ) {n : ℕ} → refusal_text text ≡ suc n → Err (ground n) ≡ reading_of (reading text)
unfolding reading_of reading answer
refused-text text e = rw e

accepted-text : (text : List ℕ) (w : Sheet) {b t : List ℤ} {n m : ℕ} → read_text text ≡ some w → refusal w.block w.table ≡ 0
    → b ≡ padded block_most w.block → n ≡ length w.block → t ≡ padded table_most w.table → m ≡ length w.table
    → Ok (record { block = b; block_len = n; table = t; table_len = m }) ≡ reading_of (reading text)
unfolding reading_of reading sheet_read sheet_unless refusal_text refusal_read answer
accepted-text text w e h b n t m = rw (b, n, t, m, e, h)

-- ---- from what was parsed

not-formed : (o : math.Option Sheet) → None ≡ parsed_of o → o ≡ none
unfolding parsed_of
not-formed none e = refl
not-formed (some w) e = let z : true ≡ false = sym (ap is_some e) in clash refl z

record Formed (o : math.Option Sheet) (p : Parsed) : Type 0 where
  sheet : Sheet
  is : o ≡ some sheet
  parsed : p ≡ filled sheet

formed : (o : math.Option Sheet) (p : Parsed) → Some p ≡ parsed_of o → Formed o p
unfolding parsed_of
formed none p e = let z : true ≡ false = ap is_some e in clash refl z
formed (some w) p e = record { sheet = w; is = refl; parsed = ap (λ (x : Option Parsed). unwrap_or x p) e }

refusal-none : (text : List ℕ) → read_text text ≡ none → refusal_text text ≡ 1
unfolding refusal_text refusal_read
refusal-none text e = rw e

refusal-some : (text : List ℕ) (w : Sheet) → read_text text ≡ some w → refusal_text text ≡ refusal w.block w.table
unfolding refusal_text refusal_read
refusal-some text w e = rw e

-- the words of a parsed text fill its two arrays
pub parsed-long : (o : math.Option Sheet) (p : Parsed) → Some p ≡ parsed_of o → (length p.block ≡ block_most) × (length p.table ≡ table_most)
unfolding filled
parsed-long o p e =
    let f = formed o p e in
    (ap (λ (x : Parsed). length x.block) f.parsed ∙ length-placed block_most _, ap (λ (x : Parsed). length x.table) f.parsed ∙ length-placed table_most _)

-- a text that is not in the form
pub read_none : (text : List ℕ) → None ≡ parsed_of (read_text text) → Err (ground 0) ≡ reading_of (reading text)
read_none text e = refused-text text (refusal-none text (not-formed (read_text text) e))

module _ (text : List ℕ) (p : Parsed) (e : Some p ≡ parsed_of (read_text text)) where
  words : Formed (read_text text) p
  words = formed (read_text text) p e

  abbrev sheet : Sheet
  sheet = words.sheet

  block_length : p.block_len ≡ length sheet.block
  unfolding filled
  block_length = ap (λ (x : Parsed). x.block_len) words.parsed

  table_length : p.table_len ≡ length sheet.table
  unfolding filled
  table_length = ap (λ (x : Parsed). x.table_len) words.parsed

  block_is : p.block ≡ placed block_most sheet.block
  unfolding filled
  block_is = ap (λ (x : Parsed). x.block) words.parsed

  table_is : p.table ≡ placed table_most sheet.table
  unfolding filled
  table_is = ap (λ (x : Parsed). x.table) words.parsed

  refusal_is : refusal_text text ≡ refusal sheet.block sheet.table
  refusal_is = refusal-some text sheet words.is

  pub read-long : block_most < p.block_len → Err (ground 2) ≡ reading_of (reading text)
  read-long l =
      let long : block_most < length sheet.block = (let k = block_length in omega arith) in
      refused-text text (refusal_is ∙ text-long text sheet words.is long sheet.table)

  module _ (l : p.block_len ≤ block_most) where
    block_back : take p.block_len p.block ≡ sheet.block
    block_back = ap (take p.block_len) block_is ∙ take-placed block_most sheet.block block_length l

    -- m words of the table are looked at: none of one that is too long, as an empty one is refused as it is
    abbrev pub Shown : ℕ → Type 0
    Shown m = ((m ≡ 0) × (table_most < p.table_len)) ⊎ ((m ≡ p.table_len) × (p.table_len ≤ table_most))

    pub shown-in : {m : ℕ} → Shown m → m ≤ length p.table
    shown-in h =
        let k = (parsed-long (read_text text) p e).1 in
        ⊎_elim (λ w. omega (arith, w.0)) (λ w. omega (arith, w.0, w.1)) h

    checked : {m : ℕ} → Shown m → refusal_text text ≡ refusal (take p.block_len p.block) (take m p.table)
    checked {m} h = refusal_is ∙ ⊎_elim none whole h ∙ ap (λ (b : List ℤ). refusal b (take m p.table)) (sym block_back)
      where
        none : (m ≡ 0) × (table_most < p.table_len) → refusal sheet.block sheet.table ≡ refusal sheet.block (take m p.table)
        none w =
            let long : table_most < length sheet.table = (let k = table_length in omega (arith, w.1)) in
            refusal-long sheet.block sheet.table long ∙ ap (λ (n : ℕ). refusal sheet.block (take n p.table)) (sym w.0)

        whole : (m ≡ p.table_len) × (p.table_len ≤ table_most) → refusal sheet.block sheet.table ≡ refusal sheet.block (take m p.table)
        whole w =
            let back = ap (take p.table_len) table_is ∙ take-placed table_most sheet.table table_length w.1 in
            ap (refusal sheet.block) (sym back) ∙ ap (λ (n : ℕ). refusal sheet.block (take n p.table)) (sym w.0)

    -- what the check of these words answers
    pub read-refused : {m : ℕ} → Shown m → {q : Result (Unit {0}) Refusal} {z : Result Reading Refusal} {r : Refusal}
        → q ≡ answer (refusal (take p.block_len p.block) (take m p.table)) (tt {0}) → q ≡ Err r → z ≡ Err r → z ≡ reading_of (reading text)
    unfolding reading_of reading
    read-refused h a o f = refused (refusal_text text) _ _ (a ∙ ap (λ (g : ℕ). answer g (tt {0})) (sym (checked h))) o f

    pub read-accepted : {m : ℕ} → Shown m → refusal (take p.block_len p.block) (take m p.table) ≡ 0
        → Ok (record { block = p.block; block_len = p.block_len; table = p.table; table_len = m }) ≡ reading_of (reading text)
    read-accepted {m} h k = ⊎_elim none whole h
      where
        sheet-accepted : refusal sheet.block sheet.table ≡ 0
        sheet-accepted = sym refusal_is ∙ checked h ∙ k

        none : (m ≡ 0) × (table_most < p.table_len)
            → Ok (record { block = p.block; block_len = p.block_len; table = p.table; table_len = m }) ≡ reading_of (reading text)
        none w =
            let long : table_most < length sheet.table = (let k = table_length in omega (arith, w.1)) in
            let l = refusal-empty sheet.block in
            absurd (omega (arith, l, sym (refusal-long sheet.block sheet.table long) ∙ sheet-accepted))

        whole : (m ≡ p.table_len) × (p.table_len ≤ table_most)
            → Ok (record { block = p.block; block_len = p.block_len; table = p.table; table_len = m }) ≡ reading_of (reading text)
        whole w =
            accepted-text text sheet words.is sheet-accepted
            (block_is ∙ placed-padded block_most sheet.block (let n = block_length in omega arith)) block_length
            (table_is ∙ placed-padded table_most sheet.table (let n = table_length in omega (arith, w.1))) (w.0 ∙ table_length)
