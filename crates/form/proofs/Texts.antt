-- The first line of a text, with its k; and the whole text by its length and its first line. Assumes nothing.
use mathlib.Core.Path.{◌≡◌, refl, sym, ap, ◌∙◌}
use mathlib.Core.Logic.{⊎_elim}
use mathlib.Core.Bool.{true, false, ◌&&◌}
use mathlib.Core.List.{List, [], ◌∷◌}
use mathlib.Core.Option.{Option, none, some}
use Prim.Native.Nat.{ℕ, ◌+◌, ◌-◌, ◌≤◌, ◌<◌}
use native.Mathlib.Omega.{arith}
use borrow.Author.Tests.{leb-true, le-leb, lt-leb}
use lib.Dec.{leb}
use lib.IntN.{ℤ, pos, negsuc}
use lib.ListN.{length, get_or, take, drop}
use lib.Seq.{get_or-take}
use Rattle.std.specs.Prelude.{Some, None}
use Rattle.integers.specs.Below.{UpTo}
use Rattle.integers.proofs.Booleans.{decide, and-true}
use Rattle.sheet.specs.Layout.{record_most}
use Rattle.sheet.specs.Text.{line, records, after_k, read_lines, read_text}
use Rattle.line.specs.Parts.{until, parts_from}
use Rattle.line.specs.Answers.{line_of, text_most}
use Rattle.form.specs.Parsed.{head_of, k_of}
use Rattle.line.proofs.Parts.{parts_none, parts_all, parts_next, part-ends}
use Rattle.line.proofs.Fields.{line-length}
use Rattle.line.proofs.Placed.{take-placed, no_words, words_of}

-- ---- k

-- outside 1 to 4 it ends the check of form
pub after-out : (z : ℤ) (ls : List (List ℕ)) → k_of z ≡ None → after_k (z ∷ []) ls ≡ some (head_of z)
unfolding k_of after_k
after-out (pos n) ls h =
    ⊎_elim
    (λ (e : (leb 1 n && leb n 4) ≡ true). let q = rw e at h in absurd (cc))
    (λ (e : (leb 1 n && leb n 4) ≡ false). rw (e, after_k))
    (decide (leb 1 n && leb n 4))
after-out (negsuc n) ls h = refl

pub after-in : (z : ℤ) (ls : List (List ℕ)) {k : ℕ} → k_of z ≡ Some k → after_k (z ∷ []) ls ≡ records k ls
unfolding k_of after_k
after-in (pos n) ls {k} h =
    ⊎_elim
    (λ (e : (leb 1 n && leb n 4) ≡ true). let q : n ≡ k = (let f = rw e at h in cc) in rw (e, after_k, q))
    (λ (e : (leb 1 n && leb n 4) ≡ false). let q = rw e at h in absurd (cc))
    (decide (leb 1 n && leb n 4))
after-in (negsuc n) ls {k} h = absurd (cc)

pub k-in : (z : ℤ) {k : ℕ} → k_of z ≡ Some k → UpTo 4 k
unfolding k_of
k-in (pos n) {k} h =
    ⊎_elim
    (λ (e : (leb 1 n && leb n 4) ≡ true).
    let q : n ≡ k = (let f = rw e at h in cc) in
    let b = and-true {a = leb 1 n} e in
    let from = leb-true 1 n b.0 in
    let upto = leb-true n 4 b.1 in
    record { from = omega arith; upto = omega arith })
    (λ (e : (leb 1 n && leb n 4) ≡ false). let q = rw e at h in absurd (cc))
    (decide (leb 1 n && leb n 4))
k-in (negsuc n) {k} h = absurd (cc)

-- ---- the whole text

pub text-long : (s : List ℕ) → text_most < length s → read_text s ≡ none
unfolding read_text
text-long s h = rw (lt-leb (length s) text_most h, read_text)

read-bad : (l : List ℕ) (ls : List (List ℕ)) → line 75 1 l ≡ none → read_lines (l ∷ ls) ≡ none
unfolding read_lines
read-bad l [] e = refl
read-bad l (m ∷ ls) e = rw (e, read_lines)

read-good : (l : List ℕ) (ls : List (List ℕ)) (ws : List ℤ) → 0 < length ls → line 75 1 l ≡ some ws → read_lines (l ∷ ls) ≡ after_k ws ls
unfolding read_lines
read-good l [] ws h e = absurd (omega arith)
read-good l (m ∷ ls) ws h e = rw (e, read_lines)

one_word : (ws : List ℤ) (z : ℤ) → length ws ≡ 1 → get_or ws 0 (pos 0) ≡ z → ws ≡ z ∷ []
one_word [] z h e = absurd (omega arith)
one_word (w ∷ []) z h e = rw e
one_word (w ∷ (v ∷ vs)) z h e = absurd (omega arith)

-- the first line ends at e
module _ (s : List ℕ) (e : ℕ) (h : length s ≤ text_most) (k : e ≡ 0 + length (until 10 s)) where
  first : read_text s ≡ read_lines (take e s ∷ parts_from 10 s (e + 1))
  unfolding read_text
  first =
      let q : e - 0 ≡ e = omega arith in
      rw (le-leb (length s) text_most h, read_text)
      (ap read_lines
      (sym (parts_all 10 s) ∙ parts_next 10 s (omega arith) k ∙ ap (λ (n : ℕ). take n s ∷ parts_from 10 s (e + 1)) q))

  -- it is not closed
  pub text-open : e ≡ length s → read_text s ≡ none
  unfolding read_lines
  text-open l = first ∙ ap (λ (fs : List (List ℕ)). read_lines (take e s ∷ fs)) (parts_none 10 s (omega arith))

  abbrev line_one : Option (List ℤ)
  line_one = line 75 1 (take e s)

  pub text-bad : line_of line_one ≡ None → read_text s ≡ none
  text-bad d = first ∙ read-bad _ _ (no_words line_one d)

  pub text-good : (e ≡ length s → ⊥) → {l : List ℤ} → line_of line_one ≡ Some l
      → read_text s ≡ after_k (get_or l 0 (pos 0) ∷ []) (parts_from 10 s (e + 1))
  text-good g {l} d =
      let w = words_of line_one d in
      let size = line-length 75 1 _ w.words w.are in
      let same = sym (get_or-take 1 l 0 (pos 0) (omega arith))
      ∙ ap (λ (x : List ℤ). get_or x 0 (pos 0)) (ap (take 1) w.stored ∙ take-placed record_most w.words (sym size) (omega arith)) in
      let inside : e + 1 ≤ length s = (let i = part-ends 10 s {p = 0} (omega arith) k in omega (arith, g)) in
      let more = ap length (parts_next 10 s {p = e + 1} {q = e + 1 + length (until 10 (drop (e + 1) s))} inside refl) in
      first ∙ read-good _ _ _ (omega arith) (w.are ∙ ap some (one_word _ _ size (sym same)))
