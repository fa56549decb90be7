-- Tables by what is open for each number of a row. The least open value is the number itself (`number-open`, `number-least`). A table lies
-- inside another where no more is open in it (`inside-open`, `open-inside`), and keeps `Table` where something is open for each number
-- (`open-table`). A table is fixed where nothing else is open (`fixed-single`, `single-fixed`). Assumes nothing.
use mathlib.Core.Path.{◌≡◌, refl, sym, ap, ◌∙◌, subst}
use mathlib.Core.Logic.{⊎_elim}
use mathlib.Core.Bool.{true, false}
use mathlib.Core.List.{List}
use mathlib.Core.Option.{Option, none}
use Prim.Native.Nat.{ℕ, zero, suc, ◌≤◌, ◌<◌, zero-le}
use native.Mathlib.Omega.{arith}
use lib.ListN.{length}
use lib.IntN.{ℤ, pos, negsuc}
use lib.Signed.{◌≤ℤ◌, ≤ℤ_refl}
use Rattle.integers.specs.Integer.{nat}
use Rattle.integers.specs.Below.{any_up_to, least_below, value_or, UpTo}
use Rattle.integers.specs.Bits.{holds}
use Rattle.integers.proofs.Booleans.{clash, true-and}
use Rattle.integers.proofs.Below.{Least, least-view, at_all, some-upto, upto-some}
use Rattle.integers.proofs.Ints.{ints, ≤ℤ-trans, within-true, true-within, eq-eq_z}
use Rattle.integers.proofs.Bits.{bit-one, one_bit}
use Rattle.integers.proofs.Sets.{none-zero, small-set, living-set, same-only, bit-only}
use Rattle.sheet.specs.Layout.{axes, rows, shape_set, low, high, has_shape, has_only}
use Rattle.sheet.specs.Placement.{row_fixed, fixed}
use Rattle.sheet.specs.Settle.{Inside}
use Rattle.sheet.specs.Accepted.{Table}
use Rattle.sheet.specs.Cuts.{HasNumber, is_open, number, Single}
use Rattle.sheet.proofs.Accepted.{rows_same}
use Rattle.sheet.proofs.Fixed.{still, one}
use Rattle.sheet.proofs.Inside.{inside-table}

module _ (block : List ℤ) where
  -- tables of the same length have the same numbers
  pub has-number : {u t : List ℤ} {i c : ℕ} → length u ≡ length t → HasNumber block u i c → HasNumber block t i c
  has-number {u} {t} {i} e n = record { from = n.from; upto = subst (λ (m : ℕ). i ≤ m) (rows_same block u t e) n.upto; few = n.few }

  -- ---- the least value that is open
  module _ (t : List ℤ) (i : ℕ) where
    no-shape-0 : has_shape block t i 0 ≡ false
    unfolding has_shape
    no-shape-0 = none-zero (shape_set block t i)

    lowest-is : (w : Least 33 (has_shape block t i)) → number block t i 0 ≡ pos w.at
    unfolding number value_or
    lowest-is w = ap (λ (o : Option ℕ). pos (value_or 0 o)) w.is

    no-lowest : least_below 33 (has_shape block t i) ≡ none → number block t i 0 ≡ pos 0
    unfolding number value_or
    no-lowest e = ap (λ (o : Option ℕ). pos (value_or 0 o)) e

    pub number-least : (c : ℕ) {z : ℤ} → is_open block t i c z ≡ true → number block t i c ≤ℤ z
    unfolding is_open number
    number-least zero {z = negsuc n} e = clash e no-shape-0
    number-least zero {z = pos s} e =
        ⊎_elim
        (λ w. let q = lowest-is w in let l = w.first s e in omega ints)
        (λ w. let q = no-lowest w.0 in omega ints)
        (least-view 33 (has_shape block t i))
    number-least (suc d) e = (within-true e).0

  -- where something is open, the number is
  module _ (t : List ℤ) (table : Table block t) where
    shape-number : (i s : ℕ) → 1 ≤ i → i ≤ rows block t → has_shape block t i s ≡ true → is_open block t i 0 (number block t i 0) ≡ true
    unfolding is_open has_shape
    shape-number i s h k e =
        let few : s ≤ 32 = small-set (table.sets_upto i h k) e in
        ⊎_elim
        (λ w. ap (λ (z : ℤ). has_shape block t i (nat z)) (lowest-is t i w) ∙ w.passes)
        (λ w. clash e (w.1 s (omega arith)))
        (least-view 33 (has_shape block t i))

    pub number-open : (i c : ℕ) → HasNumber block t i c → is_open block t i c (number block t i c) ≡ true
    unfolding has_shape is_open number
    number-open i zero n = let w = living-set (table.sets_from i n.from n.upto) in shape-number i w.0 n.from n.upto w.1
    number-open i (suc d) n = true-within (≤ℤ_refl _) (table.ordered i d n.from n.upto n.few)

  -- ---- what lies inside
  module _ (u t : List ℤ) where
    pub inside-open : Inside block u t → (i c : ℕ) (z : ℤ) → HasNumber block t i c → is_open block u i c z ≡ true → is_open block t i c z ≡ true
    unfolding is_open
    inside-open x i zero z n e = x.shapes i (nat z) n.from n.upto e
    inside-open x i (suc d) z n e =
        let w = within-true e in
        true-within
        (≤ℤ-trans (x.lows i d n.from n.upto n.few) w.0) (≤ℤ-trans w.1 (x.highs i d n.from n.upto n.few))

    -- as many words, no more open than in t, and something open for each number
    pub record Fewer : Type 0 where
      pub as_long : length u ≡ length t
      pub opens : (i c : ℕ) (z : ℤ) → HasNumber block t i c → is_open block u i c z ≡ true → is_open block t i c z ≡ true
      pub some_open : (i c : ℕ) → HasNumber block t i c → (z : ℤ) × (is_open block u i c z ≡ true)

    module _ (f : Fewer) where
      ordered : (i d : ℕ) → 1 ≤ i → i ≤ rows block t → d < axes block → low block u i d ≤ℤ high block u i d
      unfolding is_open
      ordered i d h k l =
          let w = within-true (f.some_open i (suc d) (record { from = h; upto = k; few = l })).1 in
          ≤ℤ-trans w.0 w.1

      pub open-inside : Inside block u t
      unfolding is_open
      open-inside =
          record {
            as_long = f.as_long;
            lows = λ i d h k l.
                let n : HasNumber block t i (suc d) = record { from = h; upto = k; few = l } in
                (within-true (f.opens i (suc d) (low block u i d) n (true-within (≤ℤ_refl _) (ordered i d h k l)))).0;
            highs = λ i d h k l.
                let n : HasNumber block t i (suc d) = record { from = h; upto = k; few = l } in
                (within-true (f.opens i (suc d) (high block u i d) n (true-within (ordered i d h k l) (≤ℤ_refl _)))).1;
            shapes = λ i s h k e. f.opens i 0 (pos s) (record { from = h; upto = k; few = zero-le }) e;
          }

      pub open-table : Table block t → Table block u
      unfolding is_open
      open-table table =
          inside-table block u t table open-inside
          (λ i h k. let w = f.some_open i 0 (record { from = h; upto = k; few = zero-le }) in (nat w.0, w.1)) ordered

  -- ---- fixed tables: one value is open for each number
  module _ (t : List ℤ) (table : Table block t) where
    pub only-single : (i : ℕ) → HasNumber block t i 0 → any_up_to 32 (has_only block t i) ≡ true → Single block t i 0
    unfolding is_open number has_shape has_only
    only-single i n only (negsuc m) e = clash e (no-shape-0 t i)
    only-single i n only (pos s) e =
        let o = some-upto (has_only block t i) only in
        let k = number-open t table i 0 n in
        ap pos (same-only (shape_set block t i) o.3 e ∙ sym (same-only (shape_set block t i) o.3 k))

    pub still-single : (i d : ℕ) → low block t i d ≡ high block t i d → Single block t i (suc d)
    unfolding is_open number
    still-single i d q z e = let w = within-true e in omega ints

    pub fixed-single : fixed block t ≡ true → (i c : ℕ) → HasNumber block t i c → Single block t i c
    fixed-single all-fixed i zero n = only-single i n (one-shape-of (record { from = n.from; upto = n.upto }))
      where
        one-shape-of : UpTo (rows block t) i → any_up_to 32 (has_only block t i) ≡ true
        one-shape-of row = let o = one block t all-fixed i row in upto-some (has_only block t i) o.0 o.1 o.2 o.3
    fixed-single all-fixed i (suc d) n = still-single i d (still block t all-fixed i (record { from = n.from; upto = n.upto }) d n.few)

    -- and the other way round
    module _ (i : ℕ) (from : 1 ≤ i) (upto : i ≤ rows block t) where
      pub single-only : Single block t i 0 → any_up_to 32 (has_only block t i) ≡ true
      unfolding is_open number has_shape has_only holds
      single-only single = by (nat (number block t i 0)) refl (number-open t table i 0 (record { from = from; upto = upto; few = zero-le }))
        where
          by : (s : ℕ) → nat (number block t i 0) ≡ s → has_shape block t i s ≡ true → any_up_to 32 (has_only block t i) ≡ true
          by zero q e = clash e (no-shape-0 t i)
          by (suc m) q e =
              upto-some (has_only block t i) (suc m) (omega arith) (small-set (table.sets_upto i from upto) e)
              (bit-only (shape_set block t i) m record {
                here = bit-one (shape_set block t i) m e;
                sole = λ d h. let z = ap nat (single (pos (suc d)) (one_bit (shape_set block t i) d h)) ∙ q in omega arith;
              })

      pub single-fixed : ((c : ℕ) → c ≤ axes block → Single block t i c) → row_fixed block t i ≡ true
      unfolding row_fixed is_open
      single-fixed single =
          true-and (single-only (single 0 zero-le))
          (at_all (λ d l.
          let o = table.ordered i d from upto l in
          let a = single (suc d) l (low block t i d) (true-within (≤ℤ_refl _) o) in
          let b = single (suc d) l (high block t i d) (true-within o (≤ℤ_refl _)) in
          eq-eq_z (a ∙ sym b)))
