-- The lines of one letter: `lines_of` by its first line, and a walk over them that stores their words. Assumes nothing.
use mathlib.Core.Path.{◌≡◌, refl, sym, ap, ◌∙◌}
use mathlib.Core.List.{List, [], ◌∷◌}
use mathlib.Core.Option.{Option, none, some}
use Prim.Native.Nat.{ℕ, ◌+◌, ◌-◌, ◌*◌, ◌≤◌, ◌<◌}
use native.Mathlib.Omega.{arith}
use native.Mathlib.Nat.{zero-add, add-zero, suc-mul}
use lib.IntN.{ℤ}
use lib.ListN.{length, take, drop, length-append}
use Rattle.std.specs.Prelude.{Some, None}
use Rattle.stores.specs.Put.{Put}
use Rattle.stores.proofs.Puts.{Left, left-all, left-more, left-done, put-none, put_as}
use Rattle.sheet.specs.Layout.{record_most}
use Rattle.sheet.specs.Text.{line, lines_of, Lines, add_line}
use Rattle.line.specs.Parts.{until, parts_from}
use Rattle.line.specs.Answers.{line_of, lines_from, LinesAhead, LinesRead}
use Rattle.line.proofs.Parts.{parts_none, parts_next, part-ends}
use Rattle.line.proofs.Fields.{line-length}
use Rattle.line.proofs.Placed.{take-placed, no_words, words_of}

-- no line, and all of ls left
abbrev no_lines : List (List ℕ) → Lines
no_lines ls = record { count = 0; words = []; rest = ls }

module _ (letter n : ℕ) where
  lines_none : lines_of letter n [] ≡ no_lines []
  unfolding lines_of
  lines_none = refl

  lines-bad : (l : List ℕ) (ls : List (List ℕ)) → line letter n l ≡ none → lines_of letter n (l ∷ ls) ≡ no_lines (l ∷ ls)
  unfolding lines_of
  lines-bad l ls e = rw (e, lines_of)

  lines_more : (l : List ℕ) (ls : List (List ℕ)) (ws : List ℤ) → line letter n l ≡ some ws
      → lines_of letter n (l ∷ ls) ≡ add_line ws (lines_of letter n ls)
  unfolding lines_of
  lines_more l ls ws e = rw (e, lines_of)

  -- each line has n words
  pub lines-length : (ls : List (List ℕ)) → length (lines_of letter n ls).words ≡ (lines_of letter n ls).count * n
  unfolding add_line
  lines-length [] = rw lines_none (omega arith)
  lines-length (l ∷ ls) = by-line (line letter n l) refl (lines-length ls)
    where
      by-line : (o : Option (List ℤ)) → line letter n l ≡ o → length (lines_of letter n ls).words ≡ (lines_of letter n ls).count * n
          → length (lines_of letter n (l ∷ ls)).words ≡ (lines_of letter n (l ∷ ls)).count * n
      by-line none e h = rw (lines-bad l ls e) (omega arith)
      by-line (some ws) e h =
          rw (lines_more l ls ws e)
          (length-append ws (lines_of letter n ls).words
          ∙ (let k = line-length letter n l ws e in let m = suc-mul (lines_of letter n ls).count n in omega arith))

-- ---- a walk over the lines from `at` on: c lines, whose words are stored, and the lines from p on
module _ (s : List ℕ) (at letter n : ℕ) (before : List ℤ) (to : ℕ) where
  abbrev from : ℕ → Lines
  from p = lines_from s p letter n

  pub record Walk (out : List ℤ) (c p t : ℕ) : Type 0 where
    pub counted : c + (from p).count ≡ (from at).count
    pub put : Left before to (from at).words out t (from p).words
    pub left : (from p).rest ≡ (from at).rest
    pub inside : p ≤ length s + 1
    pub few : c ≤ p
    pub short : t ≤ record_most * p

  pub walk_first : LinesAhead s at n to → Walk before 0 at to
  walk_first h = record {
    counted = zero-add _;
    put = left-all before to (from at).words;
    left = refl;
    inside = h.inside;
    few = omega arith;
    short = h.short;
  }

  module _ {out : List ℤ} {c p t : ℕ} (k : Walk out c p t) where
    abbrev Done : Type 0
    Done = LinesRead s at letter n before to (record { count = c; next = p; end = t }) out

    -- no line is left, or none that is of the letter
    stop : from p ≡ no_lines (parts_from 10 s p) → Done
    stop e = record {
      counted = sym (add-zero c) ∙ ap (λ (x : Lines). c + x.count) (sym e) ∙ k.counted;
      put = left-done k.put (put_as (ap (λ (x : Lines). x.words) (sym e)) (put-none out t));
      left = sym k.left ∙ ap (λ (x : Lines). x.rest) e;
      inside = k.inside;
      few = k.few;
      short = k.short;
    }

    pub walk_end : length s < p → Done
    walk_end h = let e = parts_none 10 s h in stop (ap (lines_of letter n) e ∙ lines_none letter n ∙ ap no_lines (sym e))

    -- the next line ends at e
    module _ (e : ℕ) (h : p ≤ length s) (q : e ≡ p + length (until 10 (drop p s))) where
      abbrev next : Option (List ℤ)
      next = line letter n (take (e - p) (drop p s))

      here : parts_from 10 s p ≡ take (e - p) (drop p s) ∷ parts_from 10 s (e + 1)
      here = parts_next 10 s h q

      pub walk-stop : line_of next ≡ None → Done
      walk-stop d = stop (ap (lines_of letter n) here ∙ lines-bad letter n _ _ (no_words next d) ∙ ap no_lines (sym here))

      module _ {r : List ℤ} (d : line_of next ≡ Some r) (f : n ≤ record_most) where
        stored : take n r ≡ (words_of next d).words
        stored =
            let w = words_of next d in
            ap (take n) w.stored ∙ take-placed record_most w.words (sym (line-length letter n _ w.words w.are)) f

        pub walk_more : {o : List ℤ} {u : ℕ} → Put out t (take n r) u o → Walk o (c + 1) (e + 1) u
        unfolding add_line
        walk_more {o} {u} b =
            let w = words_of next d in
            let size = line-length letter n _ w.words w.are in
            let more : from p ≡ add_line w.words (from (e + 1)) = ap (lines_of letter n) here ∙ lines_more letter n _ _ w.words w.are in
            let put = put_as stored b in
            record {
              counted = (let x = ap (λ (y : Lines). y.count) more in omega (arith, k.counted));
              put = left-more k.put (ap (λ (y : Lines). y.words) more) put;
              left = ap (λ (y : Lines). y.rest) (sym more) ∙ k.left;
              inside = (let i = part-ends 10 s h q in omega arith);
              few = (let i = k.few in omega arith);
              short = (let i = k.short in omega (arith, put.past));
            }
