-- A call that is given a row, a shape and a dimension: what its checks leave (`asked`), what the search leans on (`subject-of`), and the
-- answer (`answered-by`). Assumes nothing.
use mathlib.Core.Path.{◌≡◌, refl, sym, ap, ◌∙◌, subst}
use mathlib.Core.Bool.{Bool}
use mathlib.Core.List.{List}
use Prim.Native.Nat.{ℕ, ◌<◌}
use lib.IntN.{ℤ, pos}
use lib.Signed.{le_z}
use mir.Syntax.{w64}
use mir.Val.{SFits, to_z, of_z}
use mir.Facts.{to_z-of_z}
use Rattle.std.specs.Prelude.{Option, Ok}
use Rattle.integers.specs.Integer.{nat}
use Rattle.integers.proofs.Booleans.{not-false, and-true}
use Rattle.integers.proofs.Ints.{ints, disjoint}
use Rattle.sheet.specs.Layout.{axes}
use Rattle.sheet.specs.Refusal.{◌when◌, no_such_dim, refusal_shape, refusal_dim}
use Rattle.sheet.specs.Accepted.{Count, Boxed}
use Rattle.sheet.specs.Answer.{answer, as_option}
use Rattle.sheet.proofs.Accepted.{when-zero, else-zero, accepted-head, accepted-block, accepted-table}
use Rattle.sheet.proofs.Answer.{answered, passed}
use Rattle.words.specs.declared.Place.{Place}
use Rattle.words.specs.Places.{RowPlace}
use Rattle.accept.proofs.Shapes.{ShapeAsked, shape-asked}
use Rattle.outline.specs.Outline.{Subject, Outline}
use Rattle.bounds.specs.Search.{extreme_of}

-- a function of three words
pub ap₃ : {A B C D : Type 0} (f : A → B → C → D) {a a' : A} {b b' : B} {c c' : C} → a ≡ a' → b ≡ b' → c ≡ c' → f a b c ≡ f a' b' c'
ap₃ f p q r = rw (p, q, r)

pub record DimAsked (block t : List ℤ) (row shape dim : ℤ) : Type 0 where
  pub none : refusal_dim block t row shape dim ≡ 0
  pub shape_of : ShapeAsked block t row shape
  pub dim_in : Count dim
  pub dim_below : nat dim < axes block

pub dim-asked : (block t : List ℤ) (row shape dim : ℤ) → refusal_dim block t row shape dim ≡ 0 → DimAsked block t row shape dim
unfolding refusal_dim no_such_dim
dim-asked block t row shape dim e =
    let a = else-zero (refusal_shape block t row shape) (11 when no_such_dim block t dim) e in
    let s = shape-asked block t row shape a.0 in
    let w = and-true {a = le_z (pos 0) dim} (not-false (when-zero 10 (no_such_dim block t dim) a.1)) in
    let f = (accepted-head block t s.accepted).few_axes in
    record { none = e; shape_of = s; dim_in = record { from = omega ints; upto = omega ints }; dim_below = omega (ints, disjoint dim) }

-- the checks have passed, of the words as code has them
pub asked : (block t : List ℤ) {row shape dim : ℤ} → SFits w64 row → SFits w64 shape → SFits w64 dim
    → Ok (tt {0}) ≡ answer (refusal_dim block t (to_z w64 (of_z w64 row)) (to_z w64 (of_z w64 shape)) (to_z w64 (of_z w64 dim))) (tt {0})
    → DimAsked block t row shape dim
asked block t {row} {shape} {dim} r s d a =
    dim-asked block t row shape dim (passed _ _ (simp (to_z-of_z r, to_z-of_z s, to_z-of_z d) at a) refl)

module _ {block t : List ℤ} {row shape dim : ℤ} (a : DimAsked block t row shape dim) where
  -- the row at place i and the shape s, with the outline o that was drawn
  pub subject-of : {o : List ℤ} {i : Place} {s : ℕ} → Outline block o → RowPlace block t i → s ≡ nat shape → Subject block t o i s
  subject-of o i s =
      let w = a.shape_of in
      record {
        accepted = accepted-block block t w.accepted;
        table = accepted-table block t w.accepted;
        outline = o;
        row = i;
        shape = subst (Boxed block) (sym s) w.boxed;
      }

  -- what is found is the answer
  pub answered-by : (flip : Bool) {i s d : ℕ} {r : Option ℤ} → i ≡ nat row → s ≡ nat shape → d ≡ nat dim
      → r ≡ as_option (extreme_of flip block t i s d)
      → Ok r ≡ answer (refusal_dim block t row shape dim) (as_option (extreme_of flip block t (nat row) (nat shape) (nat dim)))
  answered-by flip i s d e = ap Ok (e ∙ ap as_option (ap₃ (extreme_of flip block t) i s d)) ∙ sym (answered _ a.none)
