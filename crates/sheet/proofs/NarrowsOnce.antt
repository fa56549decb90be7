-- There is one way to narrow a row: two findings that `Narrows` asks are equal (`narrows-unique`), so whatever shows `Narrows` finds
-- `narrow_of` (`narrow-is`). Assumes nothing.
use mathlib.Core.Path.{◌≡◌, refl, sym, ap, ◌∙◌, subst}
use mathlib.Core.List.{List}
use mathlib.Core.Option.{Option, none, some}
use Prim.Native.Nat.{ℕ, suc, ◌≤◌, ◌<◌}
use native.Mathlib.Omega.{arith}
use lib.IntN.{ℤ, pos}
use lib.Signed.{◌≤ℤ◌}
use Rattle.integers.proofs.Booleans.{both_ways}
use Rattle.integers.proofs.Below.{here-and-else}
use Rattle.integers.proofs.Ints.{ints, ≤ℤ-antisym}
use Rattle.integers.proofs.Sets.{set-ext, set-ge-1}
use Rattle.sheet.specs.Layout.{axes, rows, shape_set, low, high, has_shape}
use Rattle.sheet.specs.Narrow.{Stands, Narrowed, Narrows, no_place, narrowed, narrow_of}
use Rattle.sheet.specs.Accepted.{Rows, Table}
use Rattle.sheet.proofs.Accepted.{rows-again}
use Rattle.sheet.proofs.Rows.{rows_ext, set_other, low-other, high-other}
use Rattle.sheet.proofs.Narrows.{narrow-finds}

module _ (block : List ℤ) (t : List ℤ) (i : ℕ) (from : 1 ≤ i) where
  -- an end that is reached and bounds every point is below, above, every other that bounds them
  low-least : (v w : List ℤ) → Narrowed block t i v → Narrowed block t i w → (d : ℕ) → d < axes block → low block v i d ≤ℤ low block w i d
  low-least v w a b d l = let r = b.lows d l in subst (λ (z : ℤ). low block v i d ≤ℤ z) r.there (a.bounds r.point r.by d l).0

  high-most : (v w : List ℤ) → Narrowed block t i v → Narrowed block t i w → (d : ℕ) → d < axes block → high block v i d ≤ℤ high block w i d
  high-most v w a b d l = let r = a.highs d l in subst (λ (z : ℤ). z ≤ℤ high block w i d) r.there (b.bounds r.point r.by d l).1

  module _ (p : List ℤ) (st : Stands block t i p) (v w : List ℤ) (a : Narrowed block t i v) (b : Narrowed block t i w) where
    living : (u : List ℤ) → Narrowed block t i u → pos 1 ≤ℤ shape_set block u i
    unfolding has_shape
    living u n = set-ge-1 (shape_set block u i) st.shape ((n.shapes st.shape).1 (st.held, (p, st.stands)))

    same_set : shape_set block v i ≡ shape_set block w i
    unfolding has_shape
    same_set =
        let x = living v a in
        let y = living w b in
        set-ext (omega ints) (omega ints)
        (λ s. both_ways _ _ (λ e. (b.shapes s).1 ((a.shapes s).0 e)) (λ e. (a.shapes s).1 ((b.shapes s).0 e)))

    one_table : Rows block v → v ≡ w
    one_table whole =
        rows_ext block v w whole (a.as_long ∙ sym b.as_long)
        (λ m h. here-and-else i (λ (q : ℕ). 1 ≤ q → shape_set block v q ≡ shape_set block w q) (λ k. same_set)
        (λ q ne k. set_other block t v i from a.others q k ne ∙ sym (set_other block t w i from b.others q k ne)) (suc m) (omega arith))
        (λ m d h l. here-and-else i (λ (q : ℕ). 1 ≤ q → low block v q d ≡ low block w q d)
        (λ k. ≤ℤ-antisym (low-least v w a b d l) (low-least w v b a d l))
        (λ q ne k. low-other block t v i from a.others q d k ne l ∙ sym (low-other block t w i from b.others q d k ne l)) (suc m) (omega arith))
        (λ m d h l. here-and-else i (λ (q : ℕ). 1 ≤ q → high block v q d ≡ high block w q d)
        (λ k. ≤ℤ-antisym (high-most v w a b d l) (high-most w v b a d l))
        (λ q ne k. high-other block t v i from a.others q d k ne l ∙ sym (high-other block t w i from b.others q d k ne l)) (suc m)
        (omega arith))

  pub narrows-unique : Rows block t → (o o' : Option (List ℤ)) → Narrows block t i o → Narrows block t i o' → o ≡ o'
  narrows-unique whole none none x y = refl
  narrows-unique whole none (some w) (no_place f) (narrowed p st n) = absurd (f p st)
  narrows-unique whole (some v) none (narrowed p st n) (no_place f) = absurd (f p st)
  narrows-unique whole (some v) (some w) (narrowed p st a) (narrowed q su b) =
      ap some (one_table p st v w a b (rows-again block v t a.as_long whole))

  pub narrow-is : Table block t → i ≤ rows block t → (o : Option (List ℤ)) → Narrows block t i o → narrow_of block t i ≡ o
  narrow-is table upto o x = narrows-unique table.whole (narrow_of block t i) o (narrow-finds block t table i from upto) x
