-- What the settling loop keeps (`OnTheWay`) and what falls with each turn (`to_go`); and its laws: where it starts (`worked-start`), what one
-- narrowing leaves (`worked-none`, `worked-still`, `worked-moved`), and where no row is left to narrow (`worked-end`). Assumes nothing.
use mathlib.Core.Path.{◌≡◌, refl, sym, ◌∙◌, subst}
use mathlib.Core.Logic.{⊎_elim}
use mathlib.Core.Bool.{Bool, true, false, cond}
use mathlib.Core.List.{List}
use mathlib.Core.Option.{none, some}
use Prim.Native.Nat.{ℕ, zero, suc, ◌+◌, ◌*◌, ◌≤◌, ◌<◌}
use native.Mathlib.Nat.{mul-le-mul_right}
use native.Mathlib.Omega.{arith}
use lib.IntN.{ℤ}
use Rattle.integers.specs.Below.{sum_below}
use Rattle.integers.proofs.Below.{sum_lt, same_or}
use Rattle.fixpoint.specs.Run.{Way}
use Rattle.fixpoint.proofs.Between.{way-start, way_step}
use Rattle.fixpoint.proofs.Settle.{settles-none}
use Rattle.fixpoint.proofs.Worklist.{Marks, marks-all, marks-still, marks-again, marks-settled}
use Rattle.sheet.specs.Layout.{axes, rows}
use Rattle.sheet.specs.Settle.{Settled, Inside, extent, settle_of}
use Rattle.sheet.proofs.Accepted.{rows_same}
use Rattle.sheet.proofs.Local.{Harmless, narrow-again, narrow-harmless}
use Rattle.sheet.proofs.Demand3.{Good, narrow, laws}
use Rattle.settle.specs.Todo.{todo}

module _ (block : List ℤ) where
  -- v comes from t by narrowing rows, and narrowing a row that is not to be narrowed moves nothing
  pub record OnTheWay (t v : List ℤ) (due : List Bool) : Type 0 where
    pub way : Way (Inside block) (Settled block) (Good block t) t v
    pub marks : Marks (narrow block) (rows block t) (todo due) v

  -- it falls with each narrowing: the extent with one that moves a word, the number of rows to narrow with any other
  unfoldable pub to_go : ℕ → List ℤ → List Bool → ℕ
  to_go n v due = extent block v * 33 + sum_below n (λ m. cond (todo due m) 1 0)

module _ (block : List ℤ) (dims : 0 < axes block) (t : List ℤ) where
  abbrev n : ℕ
  n = rows block t

  row_of : {v : List ℤ} (m : ℕ) → Good block t v → m < n → suc m ≤ rows block v
  row_of {v} m g h = subst (λ (k : ℕ). m < k) (sym (rows_same block v t g.as_long)) h

  -- ---- the loop
  pub worked-start : (due : List Bool) → Good block t t → ((m : ℕ) → m < n → todo due m ≡ true) → OnTheWay block t t due
  worked-start due g h = record { way = way-start (laws block dims t) g; marks = marks-all h }

  module _ (v : List ℤ) (due : List Bool) (x : OnTheWay block t v due) where
    -- no row is left to narrow
    pub worked-end : ((m : ℕ) → m < n → todo due m ≡ false) → settle_of block t ≡ some v
    unfolding settle_of
    worked-end h = marks-settled (laws block dims t) x.way x.marks h

    module _ (i : ℕ) (li : i < n) where
      pub worked-none : narrow block i v ≡ none → settle_of block t ≡ none
      unfolding settle_of
      worked-none e = settles-none (laws block dims t) li x.way e

      -- nothing moved
      pub worked-still : (due' : List Bool) → narrow block i v ≡ some v
          → ((m : ℕ) → (m ≡ i → ⊥) → todo due' m ≡ todo due m) → OnTheWay block t v due'
      worked-still due' e same = record { way = x.way; marks = marks-still x.marks e (λ j lt ne c. sym (same j ne) ∙ c) }

      -- something moved: a row need not be narrowed again if row i forbids it nothing
      module _ (w : List ℤ) (e : narrow block i v ≡ some w) where
        pub worked-good : Good block t w
        worked-good = (laws block dims t).good li x.way.good e

        stays : (j : ℕ) → j < n → (j ≡ i → ⊥) → todo due j ≡ false → Harmless block w (suc i) (suc j) → narrow block j w ≡ some w
        stays j lj ne c harmless =
            narrow-harmless block v w x.way.good.table worked-good.table (suc i) (omega arith) (row_of i x.way.good li) e
            (suc j) (omega arith) (row_of j x.way.good lj) (λ z. ne (omega arith)) harmless (x.marks.clean j lj c)

        pub worked-moved : (due' : List Bool)
            → ((m : ℕ) → m < n → (m ≡ i → ⊥) → todo due' m ≡ false → (todo due m ≡ false) × Harmless block w (suc i) (suc m))
            → OnTheWay block t w due'
        worked-moved due' spared =
            record {
              way = way_step (laws block dims t) li x.way e;
              marks =
                  marks-again
                  (narrow-again block v w x.way.good.table worked-good.table (suc i) (omega arith) (row_of i x.way.good li) e)
                  (λ j lt ne c. let s = spared j lt ne c in stays j lt ne s.0 s.1);
            }

        pub worked-falls : (w ≡ v → ⊥) → extent block w < extent block v
        worked-falls ne = ⊎_elim (λ q. absurd (ne q)) (λ l. l) ((laws block dims t).falls li x.way.good e)

-- ---- the measure
abbrev one : List Bool → ℕ → ℕ
one due m = cond (todo due m) 1 0

one-count : (n : ℕ) (due : List Bool) → sum_below n (one due) ≤ n
unfolding sum_below
one-count zero due = omega arith
one-count (suc n) due = by (todo due n) refl (one-count n due)
  where
    by : (b : Bool) → todo due n ≡ b → sum_below n (one due) ≤ n → sum_below n (one due) + one due n ≤ suc n
    by true e h = rw e (omega arith)
    by false e h = rw e (omega arith)

module _ (block : List ℤ) (n : ℕ) (few : n ≤ 32) where
  -- a row that moved nothing is done
  pub less-rows : (v : List ℤ) (due due' : List Bool) (i : ℕ) → i < n → todo due i ≡ true → todo due' i ≡ false
      → ((m : ℕ) → (m ≡ i → ⊥) → todo due' m ≡ todo due m) → to_go block n v due' < to_go block n v due
  unfolding to_go
  less-rows v due due' i li e e' same =
      let s : sum_below n (one due') < sum_below n (one due) = sum_lt no_more i li (rw (e, e') (omega arith)) in
      omega arith
    where
      no_more : (m : ℕ) → m < n → one due' m ≤ one due m
      no_more m h =
          ⊎_elim
          (λ q. subst (λ (k : ℕ). one due' k ≤ one due k) (sym q) (rw (e, e') (omega arith)))
          (λ ne. rw (same m ne) (omega arith)) (same_or m i)

  -- a word moved
  pub less-extent : (v w : List ℤ) (due due' : List Bool) → extent block w < extent block v → to_go block n w due' < to_go block n v due
  unfolding to_go
  less-extent v w due due' h = omega (arith, one-count n due', mul-le-mul_right 33 h)
