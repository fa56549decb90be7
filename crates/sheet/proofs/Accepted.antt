-- An accepted sheet keeps every bound: where no check applies, `Block` and `Table` hold (`accepted-block`, `accepted-table`), and a table
-- of as many words that keeps `Table` is accepted again (`accepted-again`). Assumes nothing.
use mathlib.Core.Path.{◌≡◌, refl, sym, ap, ap₂, ◌∙◌, subst}
use mathlib.Core.Logic.{⊎_elim}
use mathlib.Core.Bool.{Bool, true, false, not, cond, ◌&&◌, ◌||◌}
use mathlib.Core.List.{List}
use Prim.Native.Nat.{ℕ, zero, suc, ◌+◌, ◌-◌, ◌*◌, ◌/◌, ◌^◌, ◌≤◌, ◌<◌}
use native.Mathlib.Nat.{le_trans, mul-le-mul}
use native.Mathlib.Omega.{arith}
use lib.Dec.{ltb}
use lib.Pow.{pow_mono}
use lib.ListN.{length}
use lib.IntN.{ℤ, pos}
use lib.Signed.{◌≤ℤ◌, le_z}
use borrow.Author.Tests.{eqb-true, leb-true, eq-eqb, le-leb}
use Rattle.integers.specs.Integer.{minus, eq_z, within, Within}
use Rattle.integers.specs.Below.{◌⇒◌, all_below, any_below}
use Rattle.integers.specs.Words.{word}
use Rattle.integers.proofs.Booleans.{not-false, and-true, true-and, or-true, or-false, implies_true, true_implies, fails}
use Rattle.integers.proofs.Below.{all-at, at_all, any_at, any-true, upto-at, at-upto}
use Rattle.integers.proofs.Ints.{ints, eq_z-eq, le-of-test, test-of-le, within-true, true-within}
use Rattle.integers.proofs.Machine.{within-test, within-pos, within_by, from-within}
use Rattle.integers.proofs.Ranges.{nat-from}
use Rattle.integers.proofs.Sets.{small-set, member-ge-1}
use Rattle.sheet.specs.Layout.{axes_most, table_most, dims, axes, boxes, rules, row_len, shape_of, offset, size, is_of, valid_box, kind}
use Rattle.sheet.specs.Layout.{is_non_overlap, is_containment, dim_set, row_set, room_low, room_high, clearance, names_dim, valid_clearance}
use Rattle.sheet.specs.Layout.{valid_ends, valid_rule, rows, shape_set, low, high, has_shape, valid_row}
use Rattle.sheet.specs.Refusal.{◌when◌, ◌else◌, bad_head, bad_counts, bad_block_length, bad_table_length, bad_box, bad_rule, bad_row, refusal}
use Rattle.sheet.specs.Accepted.{Count, Head, Block, Rows, Boxed, Table}

-- ---- the first refusal of several is 0: none applies
pub when-zero : (n : ℕ) (b : Bool) → (suc n when b) ≡ 0 → b ≡ false
unfolding ◌when◌
when-zero n true e = absurd (omega arith)
when-zero n false e = refl

pub else-zero : (g h : ℕ) → (g else h) ≡ 0 → (g ≡ 0) × (h ≡ 0)
unfolding ◌else◌
else-zero zero h e = (refl, e)
else-zero (suc g) h e = absurd (omega arith)

pub zero-when : (n : ℕ) {b : Bool} → b ≡ false → (n when b) ≡ 0
unfolding ◌when◌
zero-when n e = ap (λ (x : Bool). n when x) e

pub zero-else : {g h : ℕ} → g ≡ 0 → h ≡ 0 → (g else h) ≡ 0
unfolding ◌else◌
zero-else e k = ap₂ ◌else◌ e k

-- ---- words in their ranges
pub counted : (a n : ℕ) {z : ℤ} → n ≤ 4294967295 → within (pos a) (pos n) z ≡ true → Count z
counted a n l e = let w = within-true e in record { from = omega ints; upto = omega ints }

is-count : (n : ℕ) {z : ℤ} → n ≤ 4294967295 → eq_z z (pos n) ≡ true → Count z
is-count n l e = let q = eq_z-eq e in record { from = omega ints; upto = omega ints }

from_one : (n : ℕ) {z : ℤ} → within (pos 1) (pos n) z ≡ true → Within n z
from_one n e = let w = within-true e in record { above = omega ints; below = omega ints }

from_zero : (n m : ℕ) {z : ℤ} → n ≤ m → within (pos 0) (pos n) z ≡ true → Within m z
from_zero n m l e = let w = within-true e in record { above = omega ints; below = omega ints }

is_zero : (n : ℕ) {z : ℤ} → eq_z z (pos 0) ≡ true → Within n z
is_zero n e = within_by (eq_z-eq e) (within-pos (omega arith))

power : (n m : ℕ) → n ≤ m → m ≤ 32 → 2 ^ n - 1 ≤ 4294967295
power n m h l = let p : 2 ^ n ≤ 2 ^ 32 = pow_mono (le_trans h l) in omega arith

module _ (block : List ℤ) where
  -- ---- the block's records
  abbrev box-test : ℕ → ℕ → Bool
  box-test b d = within (minus 10000) (pos 10000) (offset block b d) && within (pos 1) (pos 10000) (size block b d)

  record ValidRule (n r : ℕ) : Type 0 where
    kinds : (is_non_overlap block r || is_containment block r) ≡ true
    dim_set : within (pos 1) (pos (2 ^ dims block - 1)) (dim_set block r) ≡ true
    row_set : within (pos 1) (pos (2 ^ n - 1)) (row_set block r) ≡ true
    ends : (d : ℕ) → d < dims block → valid_ends block r d ≡ true

  rule-parts : (n r : ℕ) → valid_rule block n r ≡ true → ValidRule n r
  unfolding valid_rule
  rule-parts n r e =
      let a = and-true e in
      let b = and-true a.0 in
      let c = and-true b.0 in
      record { kinds = c.0; dim_set = c.1; row_set = b.1; ends = λ d l. all-at _ a.1 d l }

  kind-count : (r : ℕ) → (is_non_overlap block r || is_containment block r) ≡ true → Count (kind block r)
  unfolding is_non_overlap is_containment
  kind-count r e = ⊎_elim (λ x. is-count 1 (omega arith) x) (λ x. is-count 2 (omega arith) x) (or-true e)

  end-bounds : (r d : ℕ) → valid_ends block r d ≡ true → Within 1000000 (room_low block r d) × Within 1000000 (room_high block r d)
  unfolding valid_ends valid_clearance clearance
  end-bounds r d e = pick (is_containment block r && names_dim block r d) (names_dim block r d) e
    where
      pick : (b n : Bool)
          → cond b
          (within (minus 1000000) (pos 1000000) (room_low block r d) && within (minus 1000000) (pos 1000000) (room_high block r d)
          && le_z (room_low block r d) (room_high block r d))
          (cond n (valid_clearance block r d) (eq_z (room_low block r d) (pos 0) && eq_z (room_high block r d) (pos 0))) ≡ true
          → Within 1000000 (room_low block r d) × Within 1000000 (room_high block r d)
      pick true n u = let a = and-true u in let b = and-true a.0 in (within-test b.0, within-test b.1)
      pick false true u = let a = and-true u in (from_zero 1000 1000000 (omega arith) a.0, is_zero 1000000 a.1)
      pick false false u = let a = and-true u in (is_zero 1000000 a.0, is_zero 1000000 a.1)

  room-ordered : (r d : ℕ) → is_containment block r ≡ true → names_dim block r d ≡ true → valid_ends block r d ≡ true
      → room_low block r d ≤ℤ room_high block r d
  unfolding valid_ends
  room-ordered r d k n e = pick (rw (k, n) at e)
    where
      pick : (within (minus 1000000) (pos 1000000) (room_low block r d) && within (minus 1000000) (pos 1000000) (room_high block r d)
          && le_z (room_low block r d) (room_high block r d)) ≡ true → room_low block r d ≤ℤ room_high block r d
      pick u =
          le-of-test (and-true {a = within (minus 1000000) (pos 1000000) (room_low block r d)
          && within (minus 1000000) (pos 1000000) (room_high block r d)} u).1

  one-kind : (r : ℕ) → is_non_overlap block r ≡ true → is_containment block r ≡ false
  unfolding is_non_overlap is_containment
  one-kind r e = fails (λ f. let a = eq_z-eq e in let b = eq_z-eq f in omega ints)

  not_negative : (r d : ℕ) → is_non_overlap block r ≡ true → valid_ends block r d ≡ true → pos 0 ≤ℤ clearance block r d
  unfolding valid_ends valid_clearance clearance
  not_negative r d k e = pick (names_dim block r d) (rw (one-kind r k) at e)
    where
      pick : (n : Bool) → cond n (valid_clearance block r d) (eq_z (room_low block r d) (pos 0) && eq_z (room_high block r d) (pos 0)) ≡ true
          → pos 0 ≤ℤ room_low block r d
      pick true u = (within-true {b = pos 1000} (and-true u).0).0
      pick false u = let z = eq_z-eq (and-true u).0 in omega ints

  -- ---- a row of the table
  record ValidRow (t : List ℤ) (i : ℕ) : Type 0 where
    set_from : pos 1 ≤ℤ shape_set block t i
    set_upto : shape_set block t i ≤ℤ pos 4294967295
    boxed : (s : ℕ) → has_shape block t i s ≡ true → Boxed block s
    low_in : (d : ℕ) → d < axes block → Within 1000000 (low block t i d)
    high_in : (d : ℕ) → d < axes block → Within 1000000 (high block t i d)
    ordered : (d : ℕ) → d < axes block → low block t i d ≤ℤ high block t i d

  abbrev shape-test : List ℤ → ℕ → ℕ → Bool
  shape-test t i s = has_shape block t i s ⇒ any_below (boxes block) (λ b. is_of block b s)

  abbrev range-test : List ℤ → ℕ → ℕ → Bool
  range-test t i d =
      within (minus 1000000) (pos 1000000) (low block t i d) && within (minus 1000000) (pos 1000000) (high block t i d)
      && le_z (low block t i d) (high block t i d)

  abbrev Range : List ℤ → ℕ → ℕ → Type 0
  Range t i d = Within 1000000 (low block t i d) × Within 1000000 (high block t i d) × (low block t i d ≤ℤ high block t i d)

  range-parts : (t : List ℤ) (i d : ℕ) → range-test t i d ≡ true → Range t i d
  range-parts t i d e = let a = and-true e in let b = and-true a.0 in (within-test b.0, within-test b.1, le-of-test a.1)

  row-parts : (t : List ℤ) (i : ℕ) → valid_row block t i ≡ true → ValidRow t i
  unfolding valid_row has_shape
  row-parts t i e =
      let p = and-true e in
      let q = and-true p.0 in
      let set = within-true q.0 in
      let ends : (d : ℕ) → d < axes block → Range t i d = λ d l. range-parts t i d (all-at (range-test t i) p.1 d l) in
      record {
        set_from = set.0;
        set_upto = set.1;
        boxed = λ s h.
            let w = any_at (implies_true (upto-at (shape-test t i) q.1 s (member-ge-1 (shape_set block t i) h)
            (small-set {n = 32} set.1 h)) h) in
            record { box = w.0; below = w.1; is = w.2 };
        low_in = λ d l. (ends d l).0;
        high_in = λ d l. (ends d l).1;
        ordered = λ d l. (ends d l).2;
      }

  row_by : (t : List ℤ) (i : ℕ) → ValidRow t i → valid_row block t i ≡ true
  unfolding valid_row
  row_by t i v =
      true-and
      (true-and (true-within v.set_from v.set_upto)
      (at-upto (shape-test t i) (λ s h k. true_implies (λ e. let b = v.boxed s e in any-true (λ b. is_of block b s) b.box b.below b.is))))
      (at_all (λ d l.
      let a = from-within (v.low_in d l) in
      let b = from-within (v.high_in d l) in
      true-and (true-and (true-within a.0 a.1) (true-within b.0 b.1)) (test-of-le (v.ordered d l))))

  module _ (t : List ℤ) where
    -- ---- no check applies
    pub record Passed : Type 0 where
      pub head : bad_head block ≡ false
      pub counts : bad_counts block ≡ false
      pub block_length : bad_block_length block ≡ false
      pub table_length : bad_table_length block t ≡ false
      pub box : bad_box block ≡ false
      pub rule : bad_rule block t ≡ false
      pub row : bad_row block t ≡ false

    pub passed : refusal block t ≡ 0 → Passed
    unfolding refusal
    passed accepted =
        let a = else-zero (2 when bad_head block) _ accepted in
        let b = else-zero (3 when bad_counts block) _ a.1 in
        let c = else-zero (4 when bad_block_length block) _ b.1 in
        let d = else-zero (5 when bad_table_length block t) _ c.1 in
        let e = else-zero (6 when bad_box block) _ d.1 in
        let f = else-zero (7 when bad_rule block t) (8 when bad_row block t) e.1 in
        record {
          head = when-zero 1 (bad_head block) a.0;
          counts = when-zero 2 (bad_counts block) b.0;
          block_length = when-zero 3 (bad_block_length block) c.0;
          table_length = when-zero 4 (bad_table_length block t) d.0;
          box = when-zero 5 (bad_box block) e.0;
          rule = when-zero 6 (bad_rule block t) f.0;
          row = when-zero 7 (bad_row block t) f.1;
        }

    pub accepted-by : Passed → refusal block t ≡ 0
    unfolding refusal
    accepted-by p =
        zero-else (zero-when 2 p.head) (zero-else (zero-when 3 p.counts) (zero-else (zero-when 4 p.block_length)
        (zero-else (zero-when 5 p.table_length) (zero-else (zero-when 6 p.box) (zero-else (zero-when 7 p.rule) (zero-when 8 p.row))))))

    -- ---- what the checks leave
    pub head-by : bad_head block ≡ false → bad_counts block ≡ false → bad_block_length block ≡ false → Head block
    unfolding bad_head bad_counts bad_block_length dims axes boxes rules
    head-by h c l =
        let a = not-false (or-false {a = ltb (length block) 3} h).1 in
        let b = and-true (not-false c) in
        record {
          some_dims = (nat-from (word block 0) a).0;
          few_dims = (nat-from (word block 0) a).1;
          some_axes = (nat-from (word block 0) a).0;
          few_axes = (nat-from (word block 0) a).1;
          some_boxes = (nat-from (word block 1) b.0).0;
          few_boxes = (nat-from (word block 1) b.0).1;
          few_rules = (nat-from (word block 2) b.1).1;
          long = eqb-true _ _ (not-false l);
          counts = λ at k. head-count at k a b.0 b.1;
        }
      where
        head-count : (at : ℕ) → at < 3 → within (pos 1) (pos 4) (word block 0) ≡ true → within (pos 1) (pos 128) (word block 1) ≡ true
            → within (pos 0) (pos 32) (word block 2) ≡ true → Count (word block at)
        head-count zero k a b c = counted 1 4 (omega arith) a
        head-count (suc zero) k a b c = counted 1 128 (omega arith) b
        head-count (suc (suc zero)) k a b c = counted 0 32 (omega arith) c
        head-count (suc (suc (suc n))) k a b c = absurd (omega arith)

    pub rows-by : bad_table_length block t ≡ false → Rows block t
    unfolding bad_table_length
    rows-by e =
        let a = and-true (not-false e) in
        let b = and-true a.0 in
        record { long = eqb-true _ _ b.0; some_rows = leb-true _ _ b.1; few_rows = leb-true _ _ a.1 }

    length-by : Rows block t → bad_table_length block t ≡ false
    unfolding bad_table_length
    length-by w = ap not (true-and (true-and (eq-eqb _ _ w.long) (le-leb 1 _ w.some_rows)) (le-leb _ 32 w.few_rows))

    pub table-by : Rows block t → bad_row block t ≡ false → Table block t
    unfolding bad_row
    table-by w e =
        record {
          whole = w;
          sets_from = λ i h k. (row i h k).set_from;
          sets_upto = λ i h k. (row i h k).set_upto;
          boxed = λ i s h k. (row i h k).boxed s;
          lows = λ i d h k l. (row i h k).low_in d l;
          highs = λ i d h k l. (row i h k).high_in d l;
          ordered = λ i d h k l. (row i h k).ordered d l;
        }
      where
        row : (i : ℕ) → 1 ≤ i → i ≤ rows block t → ValidRow t i
        row i h k = row-parts t i (upto-at (valid_row block t) (not-false e) i h k)

    rows-valid : Table block t → bad_row block t ≡ false
    unfolding bad_row
    rows-valid w =
        ap not (at-upto (valid_row block t) (λ i h k. row_by t i (record {
          set_from = w.sets_from i h k;
          set_upto = w.sets_upto i h k;
          boxed = λ s e. w.boxed i s h k e;
          low_in = λ d l. w.lows i d h k l;
          high_in = λ d l. w.highs i d h k l;
          ordered = λ d l. w.ordered i d h k l;
        })))

    module _ (accepted : refusal block t ≡ 0) where
      box-parts : (b : ℕ) → b < boxes block
          → (within (pos 1) (pos 32) (shape_of block b) ≡ true) × (all_below (dims block) (box-test b) ≡ true)
      unfolding bad_box valid_box
      box-parts b h = and-true (all-at (valid_box block) (not-false (passed accepted).box) b h)

      box-words : (b d : ℕ) → b < boxes block → d < dims block
          → (within (minus 10000) (pos 10000) (offset block b d) ≡ true) × (within (pos 1) (pos 10000) (size block b d) ≡ true)
      box-words b d h l = and-true (all-at (box-test b) (box-parts b h).1 d l)

      rule-valid : (r : ℕ) → r < rules block → ValidRule (rows block t) r
      unfolding bad_rule
      rule-valid r h = rule-parts (rows block t) r (all-at (valid_rule block (rows block t)) (not-false (passed accepted).rule) r h)

      pub accepted-head : Head block
      accepted-head = head-by (passed accepted).head (passed accepted).counts (passed accepted).block_length

      pub accepted-rows : Rows block t
      accepted-rows = rows-by (passed accepted).table_length

      pub accepted-block : Block block
      unfolding clearance
      accepted-block =
          record {
            head = accepted-head;
            shapes = λ b h. counted 1 32 (omega arith) (box-parts b h).0;
            shapes_from = λ b h. (nat-from (shape_of block b) (box-parts b h).0).0;
            shapes_upto = λ b h. (nat-from (shape_of block b) (box-parts b h).0).1;
            offsets = λ b d h l. within-test (box-words b d h l).0;
            sizes = λ b d h l. from_one 10000 (box-words b d h l).1;
            sizes_from = λ b d h l. (within-true {b = pos 10000} (box-words b d h l).1).0;
            kinds = λ r h. kind-count r (rule-valid r h).kinds;
            dim_sets = λ r h. counted 1 _ (power (dims block) 4 accepted-head.few_dims (omega arith)) (rule-valid r h).dim_set;
            row_sets = λ r h. counted 1 _ (power (rows block t) 32 accepted-rows.few_rows (omega arith)) (rule-valid r h).row_set;
            room_lows = λ r d h l. (end-bounds r d ((rule-valid r h).ends d l)).0;
            room_highs = λ r d h l. (end-bounds r d ((rule-valid r h).ends d l)).1;
            rooms_ordered = λ r d h l k n. room-ordered r d k n ((rule-valid r h).ends d l);
            clearances = λ r d h l. (end-bounds r d ((rule-valid r h).ends d l)).0;
            clearances_from = λ r d h l k. not_negative r d k ((rule-valid r h).ends d l);
          }

      pub accepted-table : Table block t
      accepted-table = table-by accepted-rows (passed accepted).row

  -- another table of as many words
  pub rows_same : (u t : List ℤ) → length u ≡ length t → rows block u ≡ rows block t
  unfolding rows
  rows_same u t e = ap (λ (n : ℕ). n / row_len block) e

  pub rows-again : (u t : List ℤ) → length u ≡ length t → Rows block t → Rows block u
  rows-again u t e w =
      let n = rows_same u t e in
      record {
        long = e ∙ w.long ∙ ap (λ (m : ℕ). m * row_len block) (sym n);
        some_rows = subst (λ (m : ℕ). 1 ≤ m) (sym n) w.some_rows;
        few_rows = subst (λ (m : ℕ). m ≤ 32) (sym n) w.few_rows;
      }

  pub accepted-again : (t u : List ℤ) → refusal block t ≡ 0 → length u ≡ length t → Table block u → refusal block u ≡ 0
  unfolding bad_rule
  accepted-again t u accepted e w =
      let p = passed t accepted in
      accepted-by u (record {
        head = p.head;
        counts = p.counts;
        block_length = p.block_length;
        table_length = length-by u w.whole;
        box = p.box;
        rule = ap (λ (n : ℕ). not (all_below (rules block) (valid_rule block n))) (rows_same u t e) ∙ p.rule;
        row = rows-valid u w;
      })

-- a row's set is a set
pub set-count : {block t : List ℤ} {i : ℕ} → Table block t → 1 ≤ i → i ≤ rows block t → Count (shape_set block t i)
set-count {i = i} h f u = record { from = omega (ints, h.sets_from i f u); upto = h.sets_upto i f u }

-- a table of the stated length has no more words than the largest
pub table-short : {block t : List ℤ} → Head block → Rows block t → length t ≤ table_most
unfolding row_len
table-short h r = omega (arith, r.long, mul-le-mul r.few_rows (row-short h.few_axes))
  where
    row-short : {k : ℕ} → k ≤ axes_most → 1 + 2 * k ≤ 1 + 2 * axes_most
    row-short h = omega arith
