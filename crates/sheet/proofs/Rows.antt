-- Where a row's words stand in the table: rows do not meet, each word of a table is a set, a low end or a high end of some row
-- (`word_of`), so that tables with the same
-- sets and ends are equal (`rows_ext`), and a row keeps its words where only another row's are written (`set_other`, `low-other`, `high-other`).
-- Assumes nothing.
use mathlib.Core.Path.{◌≡◌, sym, ap, ◌∙◌}
use mathlib.Core.Logic.{⊎_elim}
use mathlib.Core.List.{List}
use Prim.Native.Nat.{ℕ, zero, suc, ◌+◌, ◌*◌, ◌/◌, ◌%◌, ◌≤◌, ◌<◌}
use native.Mathlib.Nat.{not-suc-le-zero, div-add-mod', mod-lt, div-lt_iff_lt-mul}
use native.Mathlib.Omega.{arith}
use lib.ListN.{length}
use lib.IntN.{ℤ}
use Rattle.integers.specs.Bits.{holds}
use Rattle.integers.specs.Words.{word}
use Rattle.integers.proofs.Below.{same_or, below_or}
use Rattle.integers.proofs.Ranges.{record-ends}
use Rattle.integers.proofs.Lists.{words-ext}
use Rattle.sheet.specs.Layout.{axes, row_len, row_at, rows, shape_set, low, high, has_shape}
use Rattle.sheet.specs.Accepted.{Rows}

module _ (block : List ℤ) where
  pub row_before : {q i : ℕ} → 1 ≤ q → q < i → row_at block q + row_len block ≤ row_at block i
  unfolding row_at
  row_before {q = zero} h l = absurd (not-suc-le-zero h)
  row_before {q = suc a} {i = zero} h l = absurd (not-suc-le-zero l)
  row_before {q = suc a} {i = suc b} h l = let k : a < b = omega arith in record-ends (row_len block) k

  pub row_fits : (t : List ℤ) (i : ℕ) → Rows block t → 1 ≤ i → i ≤ rows block t → row_at block i + row_len block ≤ length t
  unfolding row_at
  row_fits t zero w h k = absurd (not-suc-le-zero h)
  row_fits t (suc m) w h k = let l : m < rows block t = k in omega (arith, w.long, record-ends (row_len block) l)

  -- ---- two tables that differ in the words of row i alone
  module _ (t u : List ℤ) (i : ℕ) (from : 1 ≤ i)
      (others : (at : ℕ) → (at < row_at block i → word u at ≡ word t at) × (row_at block i + row_len block ≤ at → word u at ≡ word t at)) where
    other_word : (q e : ℕ) → 1 ≤ q → (q ≡ i → ⊥) → e < row_len block → word u (row_at block q + e) ≡ word t (row_at block q + e)
    other_word q e h ne l =
        ⊎_elim
        (λ less. let b = row_before {q = q} {i = i} h less in (others (row_at block q + e)).0 (omega arith))
        (λ more. let b = row_before {q = i} {i = q} from (omega arith) in (others (row_at block q + e)).1 (omega arith))
        (below_or q i)

    pub set_other : (q : ℕ) → 1 ≤ q → (q ≡ i → ⊥) → shape_set block u q ≡ shape_set block t q
    unfolding shape_set row_len
    set_other q h ne = ap (word u) z ∙ other_word q 0 h ne (omega arith) ∙ ap (word t) (sym z)
      where
        z : row_at block q ≡ row_at block q + 0
        z = omega arith

    pub low-other : (q d : ℕ) → 1 ≤ q → (q ≡ i → ⊥) → d < axes block → low block u q d ≡ low block t q d
    unfolding low row_len
    low-other q d h ne l = ap (word u) z ∙ other_word q (1 + 2 * d) h ne (omega arith) ∙ ap (word t) (sym z)
      where
        z : row_at block q + 1 + 2 * d ≡ row_at block q + (1 + 2 * d)
        z = omega arith

    pub high-other : (q d : ℕ) → 1 ≤ q → (q ≡ i → ⊥) → d < axes block → high block u q d ≡ high block t q d
    unfolding high row_len
    high-other q d h ne l = ap (word u) z ∙ other_word q (2 + 2 * d) h ne (omega arith) ∙ ap (word t) (sym z)
      where
        z : row_at block q + 2 + 2 * d ≡ row_at block q + (2 + 2 * d)
        z = omega arith

    pub shape-other : (q s : ℕ) → 1 ≤ q → (q ≡ i → ⊥) → has_shape block u q s ≡ has_shape block t q s
    unfolding has_shape
    shape-other q s h ne = ap (λ (z : ℤ). holds z s) (set_other q h ne)

  -- ---- the place k is that of a set, a low end or a high end of row m + 1
  pub data WordOf (n k : ℕ) : Type 0 where
    a-set : (m : ℕ) → m < n → k ≡ row_at block (suc m) → WordOf n k
    a-low : (m d : ℕ) → m < n → d < axes block → k ≡ row_at block (suc m) + 1 + 2 * d → WordOf n k
    a-high : (m d : ℕ) → m < n → d < axes block → k ≡ row_at block (suc m) + 2 + 2 * d → WordOf n k

  in_row : (n m e k : ℕ) → m < n → e < row_len block → m * row_len block + e ≡ k → WordOf n k
  unfolding row_len row_at
  in_row n m zero k h l q = a-set m h (sym q ∙ omega arith)
  in_row n m (suc e) k h l q =
      let less : e / 2 < axes block = omega arith in
      ⊎_elim
      (λ even. a-low m (e / 2) h less (sym q ∙ omega arith))
      (λ odd. a-high m (e / 2) h less (sym q ∙ omega arith))
      (same_or (e % 2) 0)

  long-row : 0 < row_len block
  unfolding row_len
  long-row = omega arith

  pub word_of : (t : List ℤ) (k : ℕ) → Rows block t → k < length t → WordOf (rows block t) k
  word_of t k w h =
      let l : k < rows block t * row_len block = omega (arith, w.long) in
      in_row (rows block t) (k / row_len block) (k % row_len block) k
      ((div-lt_iff_lt-mul long-row).1 l) (mod-lt k long-row) (div-add-mod' k (row_len block))

  -- tables with the same sets and ends are equal
  pub rows_ext : (t u : List ℤ) → Rows block t → length t ≡ length u
      → ((m : ℕ) → m < rows block t → shape_set block t (suc m) ≡ shape_set block u (suc m))
      → ((m d : ℕ) → m < rows block t → d < axes block → low block t (suc m) d ≡ low block u (suc m) d)
      → ((m d : ℕ) → m < rows block t → d < axes block → high block t (suc m) d ≡ high block u (suc m) d)
      → t ≡ u
  unfolding shape_set low high
  rows_ext t u w e sets lows highs = words-ext e (λ k h. same k (word_of t k w h))
    where
      same : (k : ℕ) → WordOf (rows block t) k → word t k ≡ word u k
      same k (a-set m h q) = ap (word t) q ∙ sets m h ∙ ap (word u) (sym q)
      same k (a-low m d h l q) = ap (word t) q ∙ lows m d h l ∙ ap (word u) (sym q)
      same k (a-high m d h l q) = ap (word t) q ∙ highs m d h l ∙ ap (word u) (sym q)
