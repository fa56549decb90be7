-- A table with one range tightened: it lies inside the table (`range_inside`), its words may be leaned on as the table's may (`range-table`), and
-- a table lies inside it exactly when it lies inside the table and keeps to the new range there (`range-iff`). Assumes nothing.
use mathlib.Core.Path.{◌≡◌, sym, ◌∙◌, subst}
use mathlib.Core.Logic.{◌↔◌, ⊎_elim}
use mathlib.Core.List.{List}
use Prim.Native.Nat.{ℕ, suc, ◌≤◌, ◌<◌}
use lib.IntN.{ℤ}
use lib.ListN.{length}
use lib.Signed.{◌≤ℤ◌, ≤ℤ_refl}
use Rattle.integers.proofs.Sets.{living-set}
use Rattle.sheet.specs.Layout.{axes, rows, low, high, has_shape}
use Rattle.sheet.specs.Settle.{Inside}
use Rattle.sheet.specs.Accepted.{Table}
use Rattle.sheet.specs.Cuts.{HasNumber, with_range}
use Rattle.sheet.proofs.Accepted.{rows_same}
use Rattle.sheet.proofs.Inside.{inside-trans, inside-table}
use Rattle.sheet.proofs.Cuts.{spot-or, range-long, range-low, range-high, range-ends, range-shapes}

module _ (block : List ℤ) (t : List ℤ) (table : Table block t) (i d : ℕ) (n : HasNumber block t i (suc d)) (a b : ℤ)
    (from : low block t i d ≤ℤ a) (to : b ≤ℤ high block t i d) where
  abbrev v : List ℤ
  v = with_range block t i d a b

  long : length v ≡ length t
  long = range-long block t table.whole i n.from n.upto d n.few a b

  -- the range itself, and every other one
  is-low : low block v i d ≡ a
  is-low = range-low block t table.whole i n.from n.upto d n.few a b

  is-high : high block v i d ≡ b
  is-high = range-high block t table.whole i n.from n.upto d n.few a b

  ends : (j e : ℕ) → 1 ≤ j → (j ≡ i → e ≡ d → ⊥) → e < axes block → (low block v j e ≡ low block t j e) × (high block v j e ≡ high block t j e)
  ends = range-ends block t table.whole i n.from n.upto d n.few a b

  shapes : (j s : ℕ) → 1 ≤ j → has_shape block v j s ≡ has_shape block t j s
  shapes = range-shapes block t table.whole i n.from n.upto d n.few a b

  -- what holds of the ends of the range and of every other one holds of them all
  by-ends : (P : ℕ → ℕ → ℤ → ℤ → Type 0) → P i d a b
      → ((j e : ℕ) → 1 ≤ j → j ≤ rows block t → e < axes block → P j e (low block t j e) (high block t j e))
      → (j e : ℕ) → 1 ≤ j → j ≤ rows block t → e < axes block → P j e (low block v j e) (high block v j e)
  by-ends P here there j e h k l =
      ⊎_elim
      (λ q. rw (q.0, q.1, is-low, is-high) here)
      (λ ne. let r = ends j e h ne l in rw (r.0, r.1) (there j e h k l))
      (spot-or j i e d)

  pub range_inside : Inside block v t
  range_inside =
      record {
        as_long = long;
        lows = by-ends (λ j e x y. low block t j e ≤ℤ x) from (λ j e h k l. ≤ℤ_refl _);
        highs = by-ends (λ j e x y. y ≤ℤ high block t j e) to (λ j e h k l. ≤ℤ_refl _);
        shapes = λ j s h k q. sym (shapes j s h) ∙ q;
      }

  pub range-table : a ≤ℤ b → Table block v
  unfolding has_shape
  range-table ordered =
      inside-table block v t table range_inside
      (λ j h k. let w = living-set (table.sets_from j h k) in (w.0, shapes j w.0 h ∙ w.1))
      (by-ends (λ j e x y. x ≤ℤ y) ordered table.ordered)

  pub range-iff : (u : List ℤ) → Inside block u v ↔ (Inside block u t × (a ≤ℤ low block u i d) × (high block u i d ≤ℤ b))
  range-iff u = (λ x. (inside-trans block x range_inside, low-from x, high-to x), λ x. kept x.0 x.1 x.2)
    where
      row_of : (j : ℕ) → j ≤ rows block v → j ≤ rows block t
      row_of j k = subst (λ (m : ℕ). j ≤ m) (rows_same block v t long) k

      upto : i ≤ rows block v
      upto = subst (λ (m : ℕ). i ≤ m) (sym (rows_same block v t long)) n.upto

      low-from : Inside block u v → a ≤ℤ low block u i d
      low-from x = subst (λ (z : ℤ). z ≤ℤ low block u i d) is-low (x.lows i d n.from upto n.few)

      high-to : Inside block u v → high block u i d ≤ℤ b
      high-to x = subst (λ (z : ℤ). high block u i d ≤ℤ z) is-high (x.highs i d n.from upto n.few)

      kept : Inside block u t → a ≤ℤ low block u i d → high block u i d ≤ℤ b → Inside block u v
      kept x p q =
          record {
            as_long = x.as_long ∙ sym long;
            lows = λ j e h k l. by-ends (λ j e y z. y ≤ℤ low block u j e) p x.lows j e h (row_of j k) l;
            highs = λ j e h k l. by-ends (λ j e y z. high block u j e ≤ℤ z) q x.highs j e h (row_of j k) l;
            shapes = λ j s h k r. shapes j s h ∙ x.shapes j s h (row_of j k) r;
          }
