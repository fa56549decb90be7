-- The lines of a listing, one word and one row at a time; and a row's length, cut off where no row has room. Assumes nothing.
use mathlib.Core.Path.{◌≡◌, refl, sym, ap, ◌∙◌}
use mathlib.Core.Logic.{◌⊎◌, ⊎_elim}
use mathlib.Core.List.{List, [], ◌∷◌, ◌++◌}
use mathlib.Core.Option.{some}
use Prim.Native.Nat.{ℕ, zero, suc, ◌+◌, ◌-◌, ◌*◌, ◌/◌, ◌≤◌, ◌<◌, min}
use native.Mathlib.Omega.{arith}
use native.Mathlib.Nat.{suc-mul, div-eq_of_lt}
use lib.IntN.{ℤ, pos}
use lib.Signed.{◌<ℤ◌}
use lib.ListN.{length, get_or, take, drop, length-append, drop_of_length-le, get_or-eq_default}
use lib.Seq.{drop-cons, take_at, drop_at}
use Rattle.integers.specs.Integer.{nat}
use Rattle.integers.proofs.Ints.{ints, disjoint}
use Rattle.integers.proofs.Below.{below_or}
use Rattle.stores.specs.Put.{Put}
use Rattle.stores.proofs.Puts.{Left, left-all, left-more, left-done, put_as, put-none}
use Rattle.listing.proofs.Sizes.{shown-few, commas-few}
use Rattle.sheet.specs.Layout.{table_most, dims, axes, row_len, rows}
use Rattle.sheet.specs.Text.{ascii, shown, commas, row_lines, printed_for}

-- ---- the words of a line

pub commas-more : (ws : List ℤ) (i : ℕ) → i < length ws → commas (drop i ws) ≡ (44 ∷ []) ++ shown (get_or ws i (pos 0)) ++ commas (drop (i + 1) ws)
unfolding commas
commas-more ws i h =
    let q : suc i ≡ i + 1 = omega arith in
    ap commas (drop-cons ws i (pos 0) h) ∙ ap (λ (k : ℕ). 44 ∷ (shown (get_or ws i (pos 0)) ++ commas (drop k ws))) q

pub commas-end : (ws : List ℤ) (i : ℕ) → length ws ≤ i → commas (drop i ws) ≡ 10 ∷ []
unfolding commas
commas-end ws i h = rw (drop_of_length-le ws h)

-- ---- the rows of a table

pub rows_end : (len m : ℕ) (t : List ℤ) {n : ℕ} → n ≡ 0 → row_lines len n m t ≡ []
unfolding row_lines
rows_end len m t e = rw e

rows-one : (len n m : ℕ) (t : List ℤ) → row_lines len (suc n) m t
    ≡ (shown (pos (suc m)) ++ commas (take len t)) ++ row_lines len n (suc m) (drop len t)
unfolding row_lines
rows-one len n m t = refl

rows-few : (i len size : ℕ) → i * len ≤ size → size < len → i ≡ 0
rows-few zero len size h g = refl
rows-few (suc i) len size h g = let mul = suc-mul i len in absurd (omega arith)

-- the rows from number m on, in the words `rest`, are left to put at p; those before them stand in `out`
pub record RowsLeft (first : List ℕ) (at len n : ℕ) (t : List ℤ) (out : List ℕ) (p m : ℕ) (rest : List ℤ) : Type 0 where
  pub put : Left first at (row_lines len n 0 t) out p (row_lines len (n - m) m rest)
  pub short : p + 22 * length rest ≤ at + 22 * length t + 22 * m
  pub room : (n - m) * len ≤ length rest
  pub count : m ≤ n

pub rows-first : (out : List ℕ) (at len n : ℕ) (t : List ℤ) → n * len ≤ length t → RowsLeft out at len n t out at 0 t
rows-first out at len n t h =
    let e : n - 0 ≡ n = omega arith in
    record { put = rw e (left-all out at (row_lines len n 0 t)); short = omega arith; room = rw e h; count = omega arith }

module _ {first out : List ℕ} {at len n : ℕ} {t : List ℤ} {p m : ℕ} {rest : List ℤ} (k : RowsLeft first at len n t out p m rest) where
  -- the next row and the words after it
  pub rows-next : (row more : List ℤ) {o : List ℕ} {q : ℕ} → m < n → rest ≡ row ++ more → length row ≡ len
      → Put out p (shown (pos (m + 1)) ++ commas row) q o → RowsLeft first at len n t o q (m + 1) more
  rows-next row more {o} {q} h e size put =
      let j : n - m ≡ suc (n - (m + 1)) = omega arith in
      let i : suc m ≡ m + 1 = omega arith in
      let lines : row_lines len (n - m) m rest ≡ (shown (pos (m + 1)) ++ commas row) ++ row_lines len (n - (m + 1)) (m + 1) more =
      ap (λ (x : ℕ). row_lines len x m rest) j
      ∙ rows-one len (n - (m + 1)) m rest
      ∙ rw (e, take_at row more len size, drop_at row more len size, i) in
      let long = ap length e ∙ length-append row more in
      let mul = suc-mul (n - (m + 1)) len in
      let room : suc (n - (m + 1)) * len ≤ length rest = rw j at k.room in
      let number = shown-few (pos (m + 1)) in
      let words = commas-few row in
      let bytes = length-append (shown (pos (m + 1))) (commas row) in
      record {
        put = left-more k.put lines put;
        short = (let s = k.short in omega (arith, put.past));
        room = omega arith;
        count = omega arith;
      }

  -- no row is left, or no words for one
  pub rows-last : 0 < len → (n ≤ m) ⊎ (length rest < len) → Put first at (row_lines len n 0 t) p out
  rows-last h e =
      let none_left : n - m ≡ 0 = ⊎_elim (λ (x : n ≤ m). omega arith) (λ (x : length rest < len). rows-few (n - m) len (length rest) k.room x) e in
      left-done k.put (put_as (sym (rows_end len m rest none_left)) (put-none out p))

-- ---- the length of a row, cut off at one more than the words of the largest table

module _ (b : List ℤ) where
  abbrev k : ℤ
  k = get_or b 0 (pos 0)

  length-is : row_len b ≡ 1 + 2 * nat k
  unfolding row_len axes dims
  length-is = refl

  pub len-none : length b ≡ 0 → 1 ≡ min (row_len b) (table_most + 1)
  len-none h = let e : k ≡ pos 0 = get_or-eq_default b (pos 0) (omega arith) in rw (length-is, e)

  pub len-low : k <ℤ pos 1 → 1 ≡ min (row_len b) (table_most + 1)
  len-low h = rw length-is (let d = disjoint k in omega ints)

  pub len-high : pos 143 <ℤ k → table_most + 1 ≡ min (row_len b) (table_most + 1)
  len-high h = rw length-is (omega ints)

  pub len-in : {n : ℕ} → k ≡ pos n → n ≤ 143 → 1 + 2 * n ≡ min (row_len b) (table_most + 1)
  len-in e h = rw (length-is, e) (omega arith)

  pub len-some : {len : ℕ} → len ≡ min (row_len b) (table_most + 1) → 0 < len
  len-some e = rw (e, length-is) (omega arith)

  -- in a table there is no row of more words than the largest table has
  pub settled_is : (t : List ℤ) {len : ℕ} → len ≡ min (row_len b) (table_most + 1) → length t ≤ table_most
      → (ascii "SETTLED" ++ commas (pos (length t / len) ∷ [])) ++ row_lines len (length t / len) 0 t ≡ printed_for 0 b (some t)
  unfolding printed_for rows
  settled_is t {len} e h =
      ⊎_elim
      (λ (l : row_len b < table_most + 1). let q : len ≡ row_len b = omega arith in rw q)
      (λ (l : table_most + 1 ≤ row_len b).
      let long = row_len b in
      let m : length t / len ≡ 0 = div-eq_of_lt (omega arith) in
      let n : length t / long ≡ 0 = div-eq_of_lt (omega arith) in
      rw (m, n) (ap (λ (x : List ℕ). ascii "SETTLED" ++ commas (pos 0 ∷ []) ++ x) (rows_end len 0 t refl ∙ sym (rows_end long 0 t refl))))
      (below_or (row_len b) (table_most + 1))
