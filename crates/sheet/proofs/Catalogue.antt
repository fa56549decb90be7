-- MISSION DEMAND 2, first half: a fixed placement is good exactly when the catalogue's non-overlap holds of each two rows that a
-- kind 1 rule names, and every room rule holds (`good-is-catalogue`, and `demand-2` for every placement that is not refused).
-- Assumes nothing.
use mathlib.Core.Path.{◌≡◌, sym, ap, ◌∙◌}
use mathlib.Core.Logic.{◌⊎◌, inl, inr, ⊎_elim}
use mathlib.Core.Bool.{Bool, true, false, not, ◌&&◌}
use mathlib.Core.List.{List}
use Prim.Native.Nat.{ℕ, ◌≤◌, ◌<◌}
use native.Mathlib.Omega.{arith}
use lib.Dec.{ltb}
use lib.IntN.{ℤ}
use borrow.Author.Tests.{ltb-true, lt-ltb}
use Rattle.integers.specs.Below.{◌⇒◌, all_below, all_up_to}
use Rattle.integers.proofs.Booleans.{clash, passes, not-false, both_ways, and-true, true-and, implies_true, true_implies}
use Rattle.integers.proofs.Below.{all-at, at_all, upto-at, at-upto, below_or}
use Rattle.integers.proofs.Ints.{ints}
use Rattle.integers.proofs.Sets.{only-held}
use Rattle.sheet.specs.Layout.{boxes, rules, is_of, is_non_overlap, names_row, rows, shape_set, has_shape, has_only}
use Rattle.sheet.specs.Allowed.{rooms_hold, in_ranges, shapes_forbid, set_forbids, forbidden, allowed}
use Rattle.sheet.specs.Placement.{fixed, point_of, good, boxes_clear, no_overlap, none_overlap, all_contained, catalogue_good}
use Rattle.sheet.specs.Refusal.{◌when◌, not_fixed, refusal, refusal_placement}
use Rattle.sheet.proofs.Accepted.{when-zero, else-zero}
use Rattle.sheet.proofs.Forbidden.{allowed-parts, allowed-by, ranges-by, Pair, shapes-by, shapes-parts, set-one}
use Rattle.sheet.proofs.Forbidden.{Forbids, forbidden-by, forbidden-parts}
use Rattle.sheet.proofs.Fixed.{Row, still, one, only}
use Rattle.sheet.proofs.Exchange.{at-point, pair-not-clear, boxes-clear-comm}

module _ (block : List ℤ) (table : List ℤ) where
  -- rule r names two rows, and these are boxes of their shapes
  record Two (r i j s s' b c : ℕ) : Type 0 where
    rule : r < rules block
    kind : is_non_overlap block r ≡ true
    first : Row block table i
    second : Row block table j
    names_first : names_row block r i ≡ true
    names_second : names_row block r j ≡ true
    shape_first : (1 ≤ s) × (s ≤ 32) × (has_shape block table i s ≡ true)
    shape_second : (1 ≤ s') × (s' ≤ 32) × (has_shape block table j s' ≡ true)
    box_first : (b < boxes block) × (is_of block b s ≡ true)
    box_second : (c < boxes block) × (is_of block c s' ≡ true)

  swapped : (r i j s s' b c : ℕ) → Two r i j s s' b c → Two r j i s' s c b
  swapped r i j s s' b c w =
      record {
        rule = w.rule;
        kind = w.kind;
        first = w.second;
        second = w.first;
        names_first = w.names_second;
        names_second = w.names_first;
        shape_first = w.shape_second;
        shape_second = w.shape_first;
        box_first = w.box_second;
        box_second = w.box_first;
      }

  by_one : (r i j s s' : ℕ) → s' ≤ 32 → has_only block table j s' ≡ true
      → shapes_forbid block table r (point_of block table i) i s j s' ≡ set_forbids block table r (point_of block table i) i s j
  by_one r i j s s' = set-one block table r i s j s' (point_of block table i)

  abbrev contained : ℕ → ℕ → Bool
  contained i s = has_shape block table i s ⇒ rooms_hold block i s (point_of block table i)

  abbrev allowed-point : ℕ → ℕ → Bool
  allowed-point i s = has_shape block table i s ⇒ allowed block table i s (point_of block table i)

  abbrev shape_two : ℕ → ℕ → ℕ → ℕ → ℕ → Bool
  shape_two r i j s s' = has_shape block table j s'
      ⇒ all_below (boxes block) (λ b. is_of block b s ⇒ all_below (boxes block) (λ c. is_of block c s' ⇒ boxes_clear block table r i b j c))

  abbrev shape_one : ℕ → ℕ → ℕ → ℕ → Bool
  shape_one r i j s = has_shape block table i s ⇒ all_up_to 32 (shape_two r i j s)

  -- ---- a fixed placement
  module _ (all-fixed : fixed block table ≡ true) where
    -- ---- good: each row's point is allowed
    module _ (g : good block table ≡ true) where
      pub stands : (i s : ℕ) → Row block table i → 1 ≤ s → s ≤ 32 → has_shape block table i s ≡ true
          → allowed block table i s (point_of block table i) ≡ true
      unfolding good
      stands i s h l u t =
          implies_true (upto-at (allowed-point i) (upto-at (λ i. all_up_to 32 (allowed-point i)) g i h.from h.upto) s l u) t

      apart : (r i j s s' b c : ℕ) → i < j → Two r i j s s' b c → boxes_clear block table r i b j c ≡ true
      apart r i j s s' b c less w = passes (λ e. clash (forbidden-by block table i s (point_of block table i) (by e)) free)
        where
          free : forbidden block table i s (point_of block table i) ≡ false
          free = (allowed-parts block table i s (point_of block table i)
              (stands i s w.first w.shape_first.0 w.shape_first.1 w.shape_first.2)).2

          by : boxes_clear block table r i b j c ≡ false → Forbids block table i s (point_of block table i)
          by e =
              record {
                rule = r;
                other = j;
                rule_below = w.rule;
                from = w.second.from;
                upto = w.second.upto;
                kind = w.kind;
                names = w.names_first;
                another = λ z. different z;
                names_other = w.names_second;
                set = sym (by_one r i j s s' w.shape_second.1 (only block table all-fixed j s' w.second w.shape_second.2))
                    ∙ shapes-by block table r i s j s' (point_of block table i) (record {
                      own = b;
                      other = c;
                      own_below = w.box_first.0;
                      other_below = w.box_second.0;
                      own_is = w.box_first.1;
                      other_is = w.box_second.1;
                      pair = pair-not-clear block table r i b j c (still block table all-fixed j w.second) ∙ ap not e;
                    });
              }
            where
              different : i ≡ j → ⊥
              different z = omega arith

      to-catalogue : catalogue_good block table ≡ true
      unfolding catalogue_good none_overlap no_overlap all_contained
      to-catalogue =
          true-and
          (at_all (λ r hr. true_implies (λ kind.
          at-upto (λ j. names_row block r j ⇒ all_up_to (rows block table) (λ i. ltb i j && names_row block r i ⇒ no_overlap block table r i j))
          (λ j j1 jn. true_implies (λ nj.
          at-upto (λ i. ltb i j && names_row block r i ⇒ no_overlap block table r i j)
          (λ i i1 i_n. true_implies (λ e. let x = and-true {a = ltb i j} e in
          at-upto (shape_one r i j) (λ s s1 s32. true_implies (λ ti.
          at-upto (shape_two r i j s) (λ s' t1 t32. true_implies (λ tj.
          at_all (λ b hb. true_implies (λ ib.
          at_all (λ c hc. true_implies (λ ic.
          apart r i j s s' b c (ltb-true i j x.0) (record {
            rule = hr;
            kind = kind;
            first = record { from = i1; upto = i_n };
            second = record { from = j1; upto = jn };
            names_first = x.1;
            names_second = nj;
            shape_first = (s1, s32, ti);
            shape_second = (t1, t32, tj);
            box_first = (hb, ib);
            box_second = (hc, ic);
          }))))))))))))))))
          (at-upto (λ i. all_up_to 32 (contained i)) (λ i i1 i_n. at-upto (contained i) (λ s s1 s32. true_implies (λ t.
          (allowed-parts block table i s (point_of block table i) (stands i s (record { from = i1; upto = i_n }) s1 s32 t)).1))))

    -- ---- the catalogue's rule and the rooms
    module _ (k : catalogue_good block table ≡ true) where
      parts : (none_overlap block table ≡ true) × (all_contained block table ≡ true)
      unfolding catalogue_good
      parts = and-true k

      clear-pair : (r i j s s' b c : ℕ) → i < j → Two r i j s s' b c → boxes_clear block table r i b j c ≡ true
      unfolding none_overlap no_overlap
      clear-pair r i j s s' b c less w =
          let pairs : ℕ → ℕ → ℕ → Bool = λ r j i. ltb i j && names_row block r i ⇒ no_overlap block table r i j in
          let a = implies_true (all-at _ parts.0 r w.rule) w.kind in
          let b2 = implies_true (upto-at (λ j. names_row block r j ⇒ all_up_to (rows block table) (pairs r j)) a j w.second.from w.second.upto)
          w.names_second in
          let c2 = implies_true (upto-at (pairs r j) b2 i w.first.from w.first.upto) (true-and (lt-ltb i j less) w.names_first) in
          let d2 = implies_true (upto-at (shape_one r i j) c2 s w.shape_first.0 w.shape_first.1) w.shape_first.2 in
          let e2 = implies_true (upto-at (shape_two r i j s) d2 s' w.shape_second.0 w.shape_second.1) w.shape_second.2 in
          let f2 = implies_true (all-at _ e2 b w.box_first.0) w.box_first.1 in
          implies_true (all-at _ f2 c w.box_second.0) w.box_second.1

      contained-point : (i s : ℕ) → Row block table i → 1 ≤ s → s ≤ 32 → has_shape block table i s ≡ true
          → rooms_hold block i s (point_of block table i) ≡ true
      unfolding all_contained
      contained-point i s h l u t =
          implies_true (upto-at (contained i) (upto-at (λ i. all_up_to 32 (contained i)) parts.1 i h.from h.upto) s l u) t

      free : (i s : ℕ) → Row block table i → 1 ≤ s → s ≤ 32 → has_shape block table i s ≡ true → Forbids block table i s (point_of block table i) → ⊥
      unfolding has_shape has_only
      free i s h l u t f =
          ⊎_elim (λ less. contra (clear-pair r i j s o.0 q.own q.other less two)) (λ more. later (below_or j i) more) (below_or i j)
        where
          r : ℕ
          r = f.rule

          j : ℕ
          j = f.other

          other : Row block table j
          other = record { from = f.from; upto = f.upto }

          -- the one shape of row j
          o : (s' : ℕ) × (1 ≤ s') × (s' ≤ 32) × (has_only block table j s' ≡ true)
          o = one block table all-fixed j other

          q : Pair block table r (point_of block table i) i s j o.0
          q = shapes-parts block table r i s j o.0 (point_of block table i) (by_one r i j s o.0 o.2 o.3 ∙ f.set)

          two : Two r i j s o.0 q.own q.other
          two =
              record {
                rule = f.rule_below;
                kind = f.kind;
                first = h;
                second = other;
                names_first = f.names;
                names_second = f.names_other;
                shape_first = (l, u, t);
                shape_second = (o.1, o.2, only-held (shape_set block table j) o.0 o.3);
                box_first = (q.own_below, q.own_is);
                box_second = (q.other_below, q.other_is);
              }

          contra : boxes_clear block table r i q.own j q.other ≡ true → ⊥
          contra e = clash q.pair (pair-not-clear block table r i q.own j q.other (still block table all-fixed j other) ∙ ap not e)

          later : (j < i) ⊎ (i ≤ j) → j ≤ i → ⊥
          later (inl less) more =
              contra (boxes-clear-comm block table r i q.own j q.other
              ∙ clear-pair r j i o.0 s q.other q.own less (swapped r i j s o.0 q.own q.other two))
          later (inr l) more = f.another (omega arith)

      in-ranges : (i : ℕ) → Row block table i → in_ranges block table i (point_of block table i) ≡ true
      in-ranges i h =
          ranges-by block table i (point_of block table i) (λ d l.
          let e = at-point block table i d l in
          let q = still block table all-fixed i h d l in
          (omega ints, omega ints))

      from-catalogue : good block table ≡ true
      unfolding good
      from-catalogue =
          at-upto (λ i. all_up_to 32 (allowed-point i)) (λ i i1 i_n. at-upto (allowed-point i) (λ s s1 s32. true_implies (λ t.
          let h : Row block table i = record { from = i1; upto = i_n } in
          allowed-by block table i s (point_of block table i) (in-ranges i h) (contained-point i s h s1 s32 t)
          (λ e. free i s h s1 s32 t (forbidden-parts block table i s (point_of block table i) e)))))

    pub good-is-catalogue : good block table ≡ catalogue_good block table
    good-is-catalogue = both_ways _ _ to-catalogue from-catalogue

-- of every placement that is judged
pub demand-2 : (block : List ℤ) (table : List ℤ) → refusal_placement block table ≡ 0 → good block table ≡ catalogue_good block table
unfolding refusal_placement not_fixed
demand-2 block table g =
    good-is-catalogue block table
    (not-false (when-zero 11 (not_fixed block table) (else-zero (refusal block table) (12 when not_fixed block table) g).1))
