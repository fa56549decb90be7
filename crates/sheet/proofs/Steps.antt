-- What a narrowed row means for settled tables, from the statement `Narrowed` alone: the table left lies inside the one before
-- (`narrowed-inside`), keeps `Table` (`narrowed-table`), and every settled table inside the one before lies inside it (`narrowed-keeps`).
-- Assumes nothing.
use mathlib.Core.Path.{◌≡◌, sym, ◌∙◌, subst, subst⁻¹}
use mathlib.Core.Bool.{true}
use mathlib.Core.List.{List}
use Prim.Native.Nat.{ℕ, ◌≤◌, ◌<◌}
use lib.IntN.{ℤ}
use lib.Signed.{◌≤ℤ◌, ≤ℤ_refl}
use Rattle.integers.proofs.Below.{here-and-else}
use Rattle.integers.proofs.Ints.{ints, ≤ℤ-trans}
use Rattle.sheet.specs.Layout.{axes, rows, low, high, has_shape}
use Rattle.sheet.specs.Narrow.{Stands, Reached, Narrowed}
use Rattle.sheet.specs.Settle.{Settled, Inside}
use Rattle.sheet.specs.Accepted.{Table}
use Rattle.sheet.proofs.Accepted.{rows_same}
use Rattle.sheet.proofs.Forbidden.{allowed-parts, in-range}
use Rattle.sheet.proofs.Monotone.{still-allowed}
use Rattle.sheet.proofs.Rows.{low-other, high-other, shape-other}
use Rattle.sheet.proofs.Inside.{inside-table}

module _ (block : List ℤ) where
  -- ---- a settled table inside another
  module _ (dims : 0 < axes block) (u t : List ℤ) (settled : Settled block u) (x : Inside block u t) where
    rows_of : (i : ℕ) → i ≤ rows block t → i ≤ rows block u
    rows_of i k = subst (λ (n : ℕ). i ≤ n) (sym (rows_same block u t x.as_long)) k

    pub alive : (j : ℕ) → 1 ≤ j → j ≤ rows block t → (s : ℕ) × (has_shape block u j s ≡ true)
    alive j h k = let w = settled.lows j 0 h (rows_of j k) dims in (w.by.shape, w.by.held)

    -- its points are points of the outer table
    pub stands-outside : (i : ℕ) (p : List ℤ) → 1 ≤ i → i ≤ rows block t → Stands block u i p → Stands block t i p
    stands-outside i p h k w =
        record {
          shape = w.shape;
          held = x.shapes i w.shape h k w.held;
          stands = still-allowed block u t x i w.shape p h k w.stands;
        }

    pub settled-table : Table block t → Table block u
    settled-table table = inside-table block u t table x alive ordered
      where
        ordered : (i d : ℕ) → 1 ≤ i → i ≤ rows block t → d < axes block → low block u i d ≤ℤ high block u i d
        ordered i d h k l =
            let r = settled.lows i d h (rows_of i k) l in
            let w = in-range block u i d r.point (allowed-parts block u i r.by.shape r.point r.by.stands).0 l in
            ≤ℤ-trans w.0 w.1

  -- ---- row i narrowed
  module _ (t v : List ℤ) (i : ℕ) (from : 1 ≤ i) (upto : i ≤ rows block t) (n : Narrowed block t i v) where
    -- an end of row i lies in the range before
    reached-in : (d : ℕ) (z : ℤ) → d < axes block → Reached block t i d z → (low block t i d ≤ℤ z) × (z ≤ℤ high block t i d)
    reached-in d z l r =
        let w = in-range block t i d r.point (allowed-parts block t i r.by.shape r.point r.by.stands).0 l in
        (subst (λ (y : ℤ). low block t i d ≤ℤ y) r.there w.0, subst (λ (y : ℤ). y ≤ℤ high block t i d) r.there w.1)

    pub narrowed-inside : Inside block v t
    narrowed-inside =
        record {
          as_long = n.as_long;
          lows = λ q d h k l. here-and-else i (λ (q : ℕ). 1 ≤ q → low block t q d ≤ℤ low block v q d)
              (λ h. (reached-in d _ l (n.lows d l)).0)
              (λ q ne h. subst⁻¹ (λ (z : ℤ). low block t q d ≤ℤ z) (low-other block t v i from n.others q d h ne l) (≤ℤ_refl _)) q h;
          highs = λ q d h k l. here-and-else i (λ (q : ℕ). 1 ≤ q → high block v q d ≤ℤ high block t q d)
              (λ h. (reached-in d _ l (n.highs d l)).1)
              (λ q ne h. subst⁻¹ (λ (z : ℤ). z ≤ℤ high block t q d) (high-other block t v i from n.others q d h ne l) (≤ℤ_refl _)) q h;
          shapes = λ q s h k. here-and-else i (λ (q : ℕ). 1 ≤ q → has_shape block v q s ≡ true → has_shape block t q s ≡ true)
              (λ h e. ((n.shapes s).0 e).0)
              (λ q ne h e. sym (shape-other block t v i from n.others q s h ne) ∙ e) q h;
        }

    pub narrowed-table : (p : List ℤ) → Stands block t i p → (table : Table block t)
        → ((j : ℕ) → 1 ≤ j → j ≤ rows block t → (s : ℕ) × (has_shape block t j s ≡ true)) → Table block v
    narrowed-table p st table living = inside-table block v t table narrowed-inside kept ordered
      where
        kept : (j : ℕ) → 1 ≤ j → j ≤ rows block t → (s : ℕ) × (has_shape block v j s ≡ true)
        kept j h k =
            here-and-else i (λ (j : ℕ). 1 ≤ j → j ≤ rows block t → (s : ℕ) × (has_shape block v j s ≡ true))
            (λ h k. (st.shape, (n.shapes st.shape).1 (st.held, (p, st.stands))))
            (λ j ne h k. let a = living j h k in (a.0, shape-other block t v i from n.others j a.0 h ne ∙ a.1)) j h k

        ordered : (j d : ℕ) → 1 ≤ j → j ≤ rows block t → d < axes block → low block v j d ≤ℤ high block v j d
        ordered j d h k l =
            here-and-else i (λ (j : ℕ). 1 ≤ j → j ≤ rows block t → low block v j d ≤ℤ high block v j d)
            (λ h k. let b = n.bounds p st d l in ≤ℤ-trans b.0 b.1)
            (λ j ne h k.
            let a = low-other block t v i from n.others j d h ne l in
            let b = high-other block t v i from n.others j d h ne l in
            let c = table.ordered j d h k l in
            omega ints) j h k

    -- every settled table inside stays inside
    pub narrowed-keeps : 0 < axes block → (u : List ℤ) → Settled block u → Inside block u t → Inside block u v
    narrowed-keeps dims u s x =
        record {
          as_long = x.as_long ∙ sym n.as_long;
          lows = λ q d h k l. here-and-else i (λ (q : ℕ). 1 ≤ q → q ≤ rows block t → low block v q d ≤ℤ low block u q d)
              (λ h k. let r = s.lows i d h (rows_of dims u t s x i k) l in
              subst (λ (z : ℤ). low block v i d ≤ℤ z) r.there (n.bounds r.point (stands-outside dims u t s x i r.point h k r.by) d l).0)
              (λ q ne h k. subst⁻¹ (λ (z : ℤ). z ≤ℤ low block u q d) (low-other block t v i from n.others q d h ne l) (x.lows q d h k l)) q h
              (row_of q k);
          highs = λ q d h k l. here-and-else i (λ (q : ℕ). 1 ≤ q → q ≤ rows block t → high block u q d ≤ℤ high block v q d)
              (λ h k. let r = s.highs i d h (rows_of dims u t s x i k) l in
              subst (λ (z : ℤ). z ≤ℤ high block v i d) r.there
              (n.bounds r.point (stands-outside dims u t s x i r.point h k r.by) d l).1)
              (λ q ne h k. subst⁻¹ (λ (z : ℤ). high block u q d ≤ℤ z) (high-other block t v i from n.others q d h ne l) (x.highs q d h k l)) q h
              (row_of q k);
          shapes = λ q j h k. here-and-else i (λ (q : ℕ). 1 ≤ q → q ≤ rows block t → has_shape block u q j ≡ true → has_shape block v q j ≡ true)
              (λ h k e.
              let a = s.shapes i j h (rows_of dims u t s x i k) e in
              (n.shapes j).1 (x.shapes i j h k e, (a.0, still-allowed block u t x i j a.0 h k a.1)))
              (λ q ne h k e. shape-other block t v i from n.others q j h ne ∙ x.shapes q j h k e) q h (row_of q k);
        }
      where
        row_of : (q : ℕ) → q ≤ rows block v → q ≤ rows block t
        row_of q k = subst (λ (m : ℕ). q ≤ m) (rows_same block v t n.as_long) k
