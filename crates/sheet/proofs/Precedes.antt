-- The order of placements (document 02, T-06): each number of a row has its position (`position-number`, `number-position`), a placement
-- that precedes one that precedes a third precedes that too (`precedes-trans`), and of two placements inside a table one precedes the other
-- or they are the same (`places-order`). Assumes nothing.
use mathlib.Core.Path.{◌≡◌, sym, ap, ap₂, ◌∙◌}
use mathlib.Core.Logic.{◌⊎◌, inl, inr, ⊎_elim}
use mathlib.Core.Bool.{Bool, false, not}
use mathlib.Core.List.{List}
use Prim.Native.Nat.{ℕ, zero, suc, ◌+◌, ◌*◌, ◌/◌, ◌%◌, ◌<◌}
use native.Mathlib.Nat.{not-suc-le-zero, mod-lt, div-lt_iff_lt-mul, mul-add-div_right, mul-add-mod_self_right, div-eq_of_lt, mod-eq_of_lt}
use native.Mathlib.Omega.{arith}
use lib.Arith.{lt_of_le-ne}
use lib.ListN.{length}
use lib.IntN.{ℤ}
use lib.Signed.{◌<ℤ◌, lt_z}
use Rattle.integers.specs.Integer.{eq_z}
use Rattle.integers.proofs.Booleans.{decide, not-true, not-false}
use Rattle.integers.proofs.Below.{least-view, below_or, same_or}
use Rattle.integers.proofs.Ints.{ints, eq_z-eq}
use Rattle.integers.proofs.Ranges.{record-ends}
use Rattle.sheet.specs.Layout.{axes, rows}
use Rattle.sheet.specs.Accepted.{Table}
use Rattle.sheet.specs.Cuts.{HasNumber, number}
use Rattle.sheet.specs.FirstLayout.{Places, per_row, numbers, number_at, Precedes}
use Rattle.sheet.proofs.Accepted.{rows_same}
use Rattle.sheet.proofs.Inside.{inside-antisym}
use Rattle.sheet.proofs.Places.{places-table, places-in, own_open}

module _ (block : List ℤ) where
  -- ---- positions
  some-numbers : 0 < per_row block
  unfolding per_row
  some-numbers = omega arith

  -- position m is that of number m % per_row of row m / per_row + 1
  pub position-number : (t : List ℤ) (m : ℕ) → m < numbers block t → HasNumber block t (suc (m / per_row block)) (m % per_row block)
  unfolding numbers per_row
  position-number t m h =
      let l : m % suc (axes block) < suc (axes block) = mod-lt m some-numbers in
      record { from = omega arith; upto = (div-lt_iff_lt-mul some-numbers).1 h; few = omega arith }

  -- and each number has its position
  pub record Position (t : List ℤ) (i c : ℕ) : Type 0 where
    pub at : ℕ
    pub below : at < numbers block t
    pub row : suc (at / per_row block) ≡ i
    pub column : at % per_row block ≡ c

  pub number-position : (t : List ℤ) (i c : ℕ) → HasNumber block t i c → Position t i c
  unfolding numbers per_row
  number-position t zero c n = absurd (not-suc-le-zero n.from)
  number-position t (suc r) c n =
      let l : c < suc (axes block) = let f = n.few in omega arith in
      let u : r < rows block t = n.upto in
      record {
        at = r * suc (axes block) + c;
        below = omega (arith, record-ends (suc (axes block)) u);
        row = ap suc (mul-add-div_right some-numbers r c ∙ omega (arith, div-eq_of_lt l));
        column = mul-add-mod_self_right r (suc (axes block)) c ∙ mod-eq_of_lt l;
      }

  -- ---- the order
  pub precedes-trans : {p q r : List ℤ} → Precedes block p q → Precedes block q r → Precedes block p r
  precedes-trans {p} {q} {r} x y =
      ⊎_elim
      (λ l.
      record {
        at = x.at;
        below = x.below;
        same = λ m h. x.same m h ∙ y.same m (omega arith);
        less = let e = y.same x.at l in let f = x.less in omega ints;
      })
      (λ l. ⊎_elim (λ e. together e) (λ ne. later (lt_of_le-ne l ne)) (same_or y.at x.at))
      (below_or x.at y.at)
    where
      later : y.at < x.at → Precedes block p r
      later l =
          record {
            at = y.at;
            below = let b = x.below in omega arith;
            same = λ m h. x.same m (omega arith) ∙ y.same m h;
            less = let e = x.same y.at l in let f = y.less in omega ints;
          }

      together : y.at ≡ x.at → Precedes block p r
      together e =
          record {
            at = x.at;
            below = x.below;
            same = λ m h. x.same m h ∙ y.same m (omega arith);
            less =
                let f = x.less in
                let g : number_at block q x.at <ℤ number_at block r x.at = rw e at y.less in
                omega ints;
          }

  pub numbers-same : (p t : List ℤ) → length p ≡ length t → numbers block p ≡ numbers block t
  unfolding numbers
  numbers-same p t e = ap (λ (n : ℕ). n * per_row block) (rows_same block p t e)

  -- two placements inside a table
  module _ (some-axes : 0 < axes block) (t : List ℤ) (table : Table block t) where
    -- with the same numbers they are one
    module _ (p q : List ℤ) (x : Places block t p) (y : Places block t q)
        (same : (m : ℕ) → m < numbers block t → number_at block p m ≡ number_at block q m) where
      same-number : (i c : ℕ) → HasNumber block t i c → number block p i c ≡ number block q i c
      unfolding number_at
      same-number i c n =
          let w = number-position t i c n in
          ap₂ (number block p) (sym w.row) (sym w.column) ∙ same w.at w.below ∙ ap₂ (number block q) w.row w.column

      lies_in : Places block q p
      lies_in =
          places-in block some-axes t table p x q y.inside.as_long (λ i c n.
          rw (same-number i c n) (own_open block some-axes t table q y i c n))

    pub same-placement : (p q : List ℤ) → Places block t p → Places block t q
        → ((m : ℕ) → m < numbers block t → number_at block p m ≡ number_at block q m) → p ≡ q
    same-placement p q x y same =
        inside-antisym block p q (places-table block some-axes t table p x) (places-table block some-axes t table q y)
        (lies_in p q x y same).inside (lies_in q p y x (λ m h. sym (same m h))).inside

    pub places-order : (p q : List ℤ) → Places block t p → Places block t q → (p ≡ q) ⊎ (Precedes block p q ⊎ Precedes block q p)
    places-order p q x y =
        ⊎_elim
        (λ w.
        let before : (m : ℕ) → m < w.at → number_at block p m ≡ number_at block q m = λ m h.
        ⊎_elim (λ e. eq_z-eq e) (λ e. let l = w.first m (ap not e) in absurd (omega arith)) (decide (same m)) in
        let n : eq_z (number_at block p w.at) (number_at block q w.at) ≡ false = not-true w.passes in
        inr (⊎_elim
        (λ l. inl record { at = w.at; below = long p x.inside.as_long w.below; same = before; less = omega ints })
        (λ l. inr record { at = w.at; below = long q y.inside.as_long w.below; same = λ m h. sym (before m h); less = omega ints })
        (decide (lt_z (number_at block p w.at) (number_at block q w.at)))))
        (λ w. inl (same-placement p q x y (λ m h. eq_z-eq (not-false (w.1 m h)))))
        (least-view (numbers block t) (λ m. not (same m)))
      where
        same : ℕ → Bool
        same m = eq_z (number_at block p m) (number_at block q m)

        long : (u : List ℤ) → length u ≡ length t → {m : ℕ} → m < numbers block t → m < numbers block u
        long u e {m} h = rw (numbers-same u t e) h
