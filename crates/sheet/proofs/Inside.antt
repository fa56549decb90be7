-- 'Lies inside' for tables: it is an order (`inside-refl`, `inside-trans`, `inside-antisym`), a table inside one that keeps `Table` keeps it too
-- where no row of it is empty (`inside-table`), and a table inside another is equal to it or has a smaller extent (`inside-falls`).
-- Assumes nothing.
use mathlib.Core.Path.{◌≡◌, refl, sym, ap, ◌∙◌, subst}
use mathlib.Core.Logic.{◌⊎◌, inl, inr, ⊎_elim}
use mathlib.Core.Bool.{true}
use mathlib.Core.List.{List}
use Prim.Native.Nat.{ℕ, suc, ◌+◌, ◌≤◌, ◌<◌}
use native.Mathlib.Nat.{add-le-add}
use native.Mathlib.Omega.{arith}
use lib.IntN.{ℤ, pos}
use lib.Signed.{◌≤ℤ◌, ≤ℤ_refl}
use Rattle.integers.specs.Integer.{nat, width}
use Rattle.integers.specs.Below.{sum_below}
use Rattle.integers.specs.Words.{word, same_words}
use Rattle.integers.proofs.Booleans.{decide, both_ways}
use Rattle.integers.proofs.Below.{sum-le, sum_lt}
use Rattle.integers.proofs.Ints.{ints, ≤ℤ-trans, ≤ℤ-antisym, not-eq, disjoint}
use Rattle.integers.proofs.Machine.{within-between}
use Rattle.integers.proofs.Ranges.{width-le, width-lt}
use Rattle.integers.proofs.Sets.{set-ge-1, set-le, set-ext}
use Rattle.integers.proofs.Lists.{same-eq, same_not}
use Rattle.sheet.specs.Layout.{axes, rows, shape_set, low, high, has_shape}
use Rattle.sheet.specs.Settle.{Inside, extent}
use Rattle.sheet.specs.Accepted.{Table}
use Rattle.sheet.proofs.Accepted.{rows_same, rows-again}
use Rattle.sheet.proofs.Rows.{WordOf, a-set, a-low, a-high, word_of, rows_ext}

module _ (block : List ℤ) where
  pub inside-refl : (t : List ℤ) → Inside block t t
  inside-refl t = record { as_long = refl; lows = λ i d h k l. ≤ℤ_refl _; highs = λ i d h k l. ≤ℤ_refl _; shapes = λ i s h k e. e }

  pub inside-trans : {a b c : List ℤ} → Inside block a b → Inside block b c → Inside block a c
  inside-trans {b = b} {c = c} x y =
      let n : (i : ℕ) → i ≤ rows block c → i ≤ rows block b = λ i k. subst (λ (n : ℕ). i ≤ n) (sym (rows_same block b c y.as_long)) k in
      record {
        as_long = x.as_long ∙ y.as_long;
        lows = λ i d h k l. ≤ℤ-trans (y.lows i d h k l) (x.lows i d h (n i k) l);
        highs = λ i d h k l. ≤ℤ-trans (x.highs i d h (n i k) l) (y.highs i d h k l);
        shapes = λ i s h k e. y.shapes i s h k (x.shapes i s h (n i k) e);
      }

  -- ---- what an inner table keeps
  module _ (u t : List ℤ) (table : Table block t) (x : Inside block u t)
      (alive : (i : ℕ) → 1 ≤ i → i ≤ rows block t → (s : ℕ) × (has_shape block u i s ≡ true))
      (ordered : (i d : ℕ) → 1 ≤ i → i ≤ rows block t → d < axes block → low block u i d ≤ℤ high block u i d) where
    row_of : (i : ℕ) → i ≤ rows block u → i ≤ rows block t
    row_of i k = subst (λ (n : ℕ). i ≤ n) (rows_same block u t x.as_long) k

    set-from : (i : ℕ) → 1 ≤ i → i ≤ rows block t → pos 1 ≤ℤ shape_set block u i
    unfolding has_shape
    set-from i h k = let s = alive i h k in set-ge-1 (shape_set block u i) s.0 s.1

    set-upto : (i : ℕ) → 1 ≤ i → i ≤ rows block t → shape_set block u i ≤ℤ pos 4294967295
    unfolding has_shape
    set-upto i h k =
        let a = set-from i h k in
        let b = table.sets_from i h k in
        let c = table.sets_upto i h k in
        omega (ints, disjoint (shape_set block t i), set-le (shape_set block u i) (shape_set block t i) (λ s e. x.shapes i s h k e))

    pub inside-table : Table block u
    inside-table =
        record {
          whole = rows-again block u t x.as_long table.whole;
          sets_from = λ i h k. set-from i h (row_of i k);
          sets_upto = λ i h k. set-upto i h (row_of i k);
          boxed = λ i s h k e. table.boxed i s h (row_of i k) (x.shapes i s h (row_of i k) e);
          lows = λ i d h k l.
              within-between (table.lows i d h (row_of i k) l) (table.highs i d h (row_of i k) l) (x.lows i d h (row_of i k) l)
              (≤ℤ-trans (ordered i d h (row_of i k) l) (x.highs i d h (row_of i k) l));
          highs = λ i d h k l.
              within-between (table.lows i d h (row_of i k) l) (table.highs i d h (row_of i k) l)
              (≤ℤ-trans (x.lows i d h (row_of i k) l) (ordered i d h (row_of i k) l)) (x.highs i d h (row_of i k) l);
          ordered = λ i d h k l. ordered i d h (row_of i k) l;
        }

  -- ---- tables that lie inside each other are equal
  pub inside-antisym : (t u : List ℤ) → Table block t → Table block u → Inside block t u → Inside block u t → t ≡ u
  unfolding has_shape
  inside-antisym t u kt ku x y =
      let n : (m : ℕ) → m < rows block t → m < rows block u = λ m k. subst (λ (n : ℕ). m < n) (rows_same block t u x.as_long) k in
      rows_ext block t u kt.whole x.as_long
      (λ m k.
      let a = kt.sets_from (suc m) (omega arith) k in
      let b = ku.sets_from (suc m) (omega arith) (n m k) in
      set-ext (omega ints) (omega ints) (λ s. both_ways _ _ (x.shapes (suc m) s (omega arith) (n m k)) (y.shapes (suc m) s (omega arith) k)))
      (λ m d k l. ≤ℤ-antisym (y.lows (suc m) d (omega arith) k l) (x.lows (suc m) d (omega arith) (n m k) l))
      (λ m d k l. ≤ℤ-antisym (x.highs (suc m) d (omega arith) (n m k) l) (y.highs (suc m) d (omega arith) k l))

  -- ---- the extent falls
  abbrev ranges : List ℤ → ℕ → ℕ → ℕ
  ranges t m d = width (low block t (suc m) d) (high block t (suc m) d)

  abbrev weight : List ℤ → ℕ → ℕ
  weight t m = nat (shape_set block t (suc m)) + sum_below (axes block) (ranges t m)

  module _ (u t : List ℤ) (ku : Table block u) (kt : Table block t) (x : Inside block u t) where
    sets : (m : ℕ) → m < rows block t → nat (shape_set block u (suc m)) ≤ nat (shape_set block t (suc m))
    unfolding has_shape
    sets m h = set-le (shape_set block u (suc m)) (shape_set block t (suc m)) (λ s e. x.shapes (suc m) s (omega arith) h e)

    widths : (m : ℕ) → m < rows block t → (d : ℕ) → d < axes block → ranges u m d ≤ ranges t m d
    widths m h d l = width-le (x.lows (suc m) d (omega arith) h l) (x.highs (suc m) d (omega arith) h l)

    weights : (m : ℕ) → m < rows block t → weight u m ≤ weight t m
    weights m h = add-le-add (sets m h) (sum-le (widths m h))

    by-set : (m : ℕ) → m < rows block t → (shape_set block u (suc m) ≡ shape_set block t (suc m) → ⊥) → weight u m < weight t m
    by-set m h ne =
        let a = ku.sets_from (suc m) (omega arith) (subst (λ (n : ℕ). m < n) (sym (rows_same block u t x.as_long)) h) in
        let b = kt.sets_from (suc m) (omega arith) h in
        omega (ints, not-eq ne, disjoint (shape_set block u (suc m)), disjoint (shape_set block t (suc m)), sets m h, sum-le (widths m h))

    by-range : (m d : ℕ) → m < rows block t → d < axes block
        → (low block t (suc m) d ≡ low block u (suc m) d → high block t (suc m) d ≡ high block u (suc m) d → ⊥) → weight u m < weight t m
    by-range m d h l ne =
        omega (
          arith,
          sets m h,
          sum_lt (widths m h) d l
              (width-lt (kt.ordered (suc m) d (omega arith) h l) (x.lows (suc m) d (omega arith) h l) (x.highs (suc m) d (omega arith) h l) ne),
        )

    moved : (k : ℕ) → WordOf block (rows block t) k → (word u k ≡ word t k → ⊥) → (m : ℕ) × (m < rows block t) × (weight u m < weight t m)
    unfolding shape_set low high
    moved k (a-set m h q) ne = (m, h, by-set m h (λ e. ne (ap (word u) q ∙ e ∙ ap (word t) (sym q))))
    moved k (a-low m d h l q) ne = (m, h, by-range m d h l (λ e g. ne (ap (word u) q ∙ sym e ∙ ap (word t) (sym q))))
    moved k (a-high m d h l q) ne = (m, h, by-range m d h l (λ e g. ne (ap (word u) q ∙ sym g ∙ ap (word t) (sym q))))

    extent-less : (m : ℕ) → m < rows block t → weight u m < weight t m → extent block u < extent block t
    unfolding extent
    extent-less m h s =
        subst (λ (n : ℕ). sum_below n (weight u) < sum_below (rows block t) (weight t)) (sym (rows_same block u t x.as_long)) (sum_lt weights m h s)

    pub inside-falls : (u ≡ t) ⊎ (extent block u < extent block t)
    inside-falls =
        ⊎_elim (λ e. inl (same-eq e))
        (λ e.
        let k = same_not u t x.as_long e in
        let m = moved k.0 (word_of block t k.0 kt.whole (omega (arith, k.1, x.as_long))) k.2 in
        inr (extent-less m.0 m.1 m.2))
        (decide (same_words u t))
