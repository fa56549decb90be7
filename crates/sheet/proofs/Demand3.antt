-- MISSION DEMAND 3 of the definition: for every accepted sheet `settle_of` finds 'no layout' exactly when no settled table lies inside
-- the given one, and otherwise the settled table inside that contains every other (`demand-3`); a finding with that property is unique,
-- whatever finds it and in whatever order of rows (`demand-3-unique`). What is left is accepted again (`narrowed-accepted`, `settled-accepted`).
-- The proof gives crates/fixpoint its laws (`laws`). Assumes nothing.
use mathlib.Core.Path.{◌≡◌, refl, sym, ◌∙◌, subst}
use mathlib.Core.Bool.{true}
use mathlib.Core.List.{List}
use mathlib.Core.Option.{Option, none, some}
use Prim.Native.Nat.{ℕ, zero, suc, ◌≤◌, ◌<◌}
use native.Mathlib.Omega.{arith}
use lib.ListN.{length}
use lib.IntN.{ℤ}
use Rattle.integers.specs.Words.{same_words}
use Rattle.integers.proofs.Sets.{living-set}
use Rattle.integers.proofs.Lists.{same-eq, same_refl}
use Rattle.fixpoint.specs.Finding.{Survives}
use Rattle.fixpoint.specs.Laws.{Laws, Still}
use Rattle.fixpoint.proofs.Settle.{settle-finds, settles}
use Rattle.sheet.specs.Layout.{axes, rows, has_shape}
use Rattle.sheet.specs.Narrow.{Stands, Narrowed, Narrows, no_place, narrowed, narrow_of}
use Rattle.sheet.specs.Settle.{Settled, Inside, Settles, extent, settle_of}
use Rattle.sheet.specs.Refusal.{refusal}
use Rattle.sheet.specs.Accepted.{Table}
use Rattle.sheet.proofs.Accepted.{accepted-head, accepted-table, rows_same, accepted-again}
use Rattle.sheet.proofs.Narrows.{narrow-finds}
use Rattle.sheet.proofs.Inside.{inside-refl, inside-trans, inside-antisym, inside-falls}
use Rattle.sheet.proofs.Steps.{settled-table, stands-outside, narrowed-inside, narrowed-table, narrowed-keeps}

module _ (block : List ℤ) where
  -- each row of a table that keeps `Table` has a shape
  pub living : {t : List ℤ} → Table block t → (i : ℕ) → 1 ≤ i → i ≤ rows block t → (s : ℕ) × (has_shape block t i s ≡ true)
  unfolding has_shape
  living table i h k = living-set (table.sets_from i h k)

  -- a narrowing that leaves a table, taken apart
  record Left (t : List ℤ) (i : ℕ) (v : List ℤ) : Type 0 where
    point : List ℤ
    stands : Stands block t i point
    left : Narrowed block t i v

  left_by : {t : List ℤ} {i : ℕ} {v : List ℤ} → Narrows block t i (some v) → Left t i v
  left_by (narrowed p st n) = record { point = p; stands = st; left = n }

  -- ---- the tables on the way from t₀
  pub record Good (t₀ t : List ℤ) : Type 0 where
    pub table : Table block t
    pub as_long : length t ≡ length t₀

  -- rows count from 0 in crates/fixpoint
  abbrev pub narrow : ℕ → List ℤ → Option (List ℤ)
  narrow m t = narrow_of block t (suc m)

  module _ (dims : 0 < axes block) (t₀ : List ℤ) where
    row_in : {t : List ℤ} (m : ℕ) → Good t₀ t → m < rows block t₀ → suc m ≤ rows block t
    row_in {t} m g h = subst (λ (n : ℕ). m < n) (sym (rows_same block t t₀ g.as_long)) h

    finds : (t : List ℤ) (m : ℕ) → Good t₀ t → m < rows block t₀ → Narrows block t (suc m) (narrow m t)
    finds t m g h = narrow-finds block t g.table (suc m) (omega arith) (row_in m g h)

    left : (t v : List ℤ) (m : ℕ) → Good t₀ t → m < rows block t₀ → narrow m t ≡ some v → Left t (suc m) v
    left t v m g h e = left_by (subst (λ (o : Option (List ℤ)). Narrows block t (suc m) o) e (finds t m g h))

    survives : (t u : List ℤ) (m : ℕ) → Good t₀ t → m < rows block t₀ → Settled block u → Inside block u t
        → (o : Option (List ℤ)) → Narrows block t (suc m) o → Survives (Inside block) u o
    survives t u m g h s x none (no_place f) =
        let k = row_in m g h in
        let r = s.lows (suc m) 0 (omega arith) (subst (λ (n : ℕ). suc m ≤ n) (sym (rows_same block u t x.as_long)) k) dims in
        f r.point (stands-outside block dims u t s x (suc m) r.point (omega arith) k r.by)
    survives t u m g h s x (some v) (narrowed p st n) =
        narrowed-keeps block t v (suc m) (omega arith) (row_in m g h) n dims u s x

    inside_of : (t v : List ℤ) (m : ℕ) → Good t₀ t → m < rows block t₀ → narrow m t ≡ some v → Inside block v t
    inside_of t v m g h e = narrowed-inside block t v (suc m) (omega arith) (row_in m g h) (left t v m g h e).left

    good_of : (t v : List ℤ) (m : ℕ) → Good t₀ t → m < rows block t₀ → narrow m t ≡ some v → Good t₀ v
    good_of t v m g h e =
        let w = left t v m g h e in
        record {
          table = narrowed-table block t v (suc m) (omega arith) (row_in m g h) w.left w.point w.stands g.table (living g.table);
          as_long = w.left.as_long ∙ g.as_long;
        }

    settled-still : (t : List ℤ) → Good t₀ t → Still narrow (rows block t₀) t → Settled block t
    settled-still t g still =
        let at : (i : ℕ) → 1 ≤ i → i ≤ rows block t → Narrowed block t i t = λ i h k. each_row i h k in
        record {
          lows = λ i d h k l. (at i h k).lows d l;
          highs = λ i d h k l. (at i h k).highs d l;
          shapes = λ i s h k e. (((at i h k).shapes s).0 e).1;
        }
      where
        each_row : (i : ℕ) → 1 ≤ i → i ≤ rows block t → Narrowed block t i t
        each_row (suc m) h k =
            let l : m < rows block t₀ = subst (λ (n : ℕ). m < n) (rows_same block t t₀ g.as_long) k in
            (left t t m g l (still m l)).left
        each_row zero h k = absurd (omega arith)

    pub laws : Laws (Inside block) (Settled block) (Good t₀) narrow same_words (rows block t₀) (extent block)
    laws =
        record {
          rfl = inside-refl block;
          trans = λ x y. inside-trans block x y;
          antisym = λ {s} {t} {u} g x y st su a b.
              inside-antisym block t u (settled-table block dims t s st x g.table) (settled-table block dims u s su y g.table) a b;
          equal = λ t u. (λ e. same-eq e, λ e. subst (λ (y : List ℤ). same_words t y ≡ true) e (same_refl t));
          keeps = λ {i} {t} {u} h g s x. survives t u i g h s x (narrow i t) (finds t i g h);
          good = λ {i} {t} {v} h g e. good_of t v i g h e;
          shrinks = λ {i} {t} {v} h g e. inside_of t v i g h e;
          falls = λ {i} {t} {v} h g e. inside-falls block v t (good_of t v i g h e).table g.table (inside_of t v i g h e);
          still = λ {t} g s. settled-still t g s;
        }

  -- ---- an accepted sheet
  module _ (t : List ℤ) (accepted : refusal block t ≡ 0) where
    pub some-axes : 0 < axes block
    some-axes = (accepted-head block t accepted).some_axes

    pub good_start : Good t t
    good_start = record { table = accepted-table block t accepted; as_long = refl }

    pub demand-3 : Settles block t (settle_of block t)
    unfolding settle_of
    demand-3 = settle-finds (laws some-axes t) t good_start

    pub demand-3-unique : (r : Option (List ℤ)) → Settles block t r → settle_of block t ≡ r
    unfolding settle_of
    demand-3-unique r h = settles (laws some-axes t) {r = r} good_start h

    pub narrowed-accepted : (i : ℕ) (v : List ℤ) → 1 ≤ i → i ≤ rows block t → narrow_of block t i ≡ some v → refusal block v ≡ 0
    narrowed-accepted i v h k e =
        let table = accepted-table block t accepted in
        let w = left_by (subst (λ (o : Option (List ℤ)). Narrows block t i o) e (narrow-finds block t table i h k)) in
        accepted-again block t v accepted w.left.as_long (narrowed-table block t v i h k w.left w.point w.stands table (living table))

    pub settled-accepted : (u : List ℤ) → Settled block u → Inside block u t → refusal block u ≡ 0
    settled-accepted u s x = accepted-again block t u accepted x.as_long (settled-table block some-axes u t s x (accepted-table block t accepted))
