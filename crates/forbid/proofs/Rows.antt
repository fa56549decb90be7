-- What another row forbids: nothing where it is the row itself or is not named, and else what every shape of its set does, which is found shape
-- by shape (`shapes_to`). Assumes nothing.
use mathlib.Core.Path.{◌≡◌, sym, ap, ◌∙◌, subst}
use mathlib.Core.Logic.{⊎_elim}
use mathlib.Core.Bool.{Bool, true, false, ◌&&◌}
use mathlib.Core.List.{List}
use Prim.Native.Nat.{ℕ, ◌+◌, ◌≤◌, ◌<◌}
use native.Mathlib.Numerals.{add-one}
use native.Mathlib.Omega.{arith}
use lib.IntN.{ℤ}
use borrow.Author.Tests.{eq-eqb, ne_eqb}
use Rattle.integers.specs.Below.{◌⇒◌, all_up_to, any_up_to}
use Rattle.integers.proofs.Booleans.{clash, fails, both_ways, and_left, implies-in, implies-out}
use Rattle.integers.proofs.Below.{below_or, all_more, upto-at, at-upto, some-upto, upto-some}
use Rattle.integers.proofs.Sets.{held-only}
use Rattle.sheet.specs.Layout.{names_row, rows, shape_set, has_shape, has_only}
use Rattle.sheet.specs.Allowed.{shapes_forbid, set_forbids, row_forbids}
use Rattle.sheet.proofs.Forbidden.{set_at, set-one}
use Rattle.forbid.specs.Region.{rows_forbid}

module _ (block : List ℤ) (t : List ℤ) where
  module _ (r i s j : ℕ) where
    -- ---- the other row's set, shape by shape: what each of the shapes up to n forbids
    abbrev test : List ℤ → ℕ → Bool
    test p x = has_shape block t j x ⇒ shapes_forbid block t r p i s j x

    abbrev pub shapes_to : ℕ → List ℤ → Bool
    shapes_to n p = all_up_to n (test p)

    -- the set holds none of them
    pub shapes-none : (n : ℕ) → ((x : ℕ) → 1 ≤ x → x ≤ n → has_shape block t j x ≡ false) → (p : List ℤ) → shapes_to n p ≡ true
    shapes-none n f p = at-upto (test p) (λ x h l. implies-out _ (f x h l))

    -- one shape more, which the set does not hold, or does
    pub shapes-skip : (n : ℕ) → has_shape block t j (n + 1) ≡ false → (p : List ℤ) → shapes_to n p ≡ shapes_to (n + 1) p
    shapes-skip n e p =
        and_left (all_up_to n (test p)) _ (λ f. implies-out _ (subst (λ (x : ℕ). has_shape block t j x ≡ false) (add-one n) e)) ∙ sym (all_more n _)

    pub shapes-more : (n : ℕ) → has_shape block t j (n + 1) ≡ true → (p : List ℤ)
        → (shapes_to n p && shapes_forbid block t r p i s j (n + 1)) ≡ shapes_to (n + 1) p
    shapes-more n e p =
        ap (λ (x : Bool). all_up_to n (test p) && x) (sym (implies-in _ e) ∙ ap (test p) (add-one n)) ∙ sym (all_more n _)

    -- none is left
    pub shapes-all : (n : ℕ) → n ≤ 32 → ((x : ℕ) → n < x → has_shape block t j x ≡ false) → (p : List ℤ)
        → shapes_to n p ≡ set_forbids block t r p i s j
    unfolding set_forbids
    shapes-all n l f p = both_ways _ _
        (λ e. at-upto (test p) (λ x h k. ⊎_elim (λ u. implies-out _ (f x u)) (λ u. upto-at (test p) e x h u) (below_or n x)))
        (λ e. at-upto (test p) (λ x h k. upto-at (test p) e x h (omega arith)))

    -- a shape of the set that misses the point, and the one shape of a set
    pub set-missed : (x : ℕ) → x ≤ 32 → has_shape block t j x ≡ true → (p : List ℤ) → shapes_forbid block t r p i s j x ≡ false
        → set_forbids block t r p i s j ≡ false
    set-missed x l held p e = fails (λ f. clash (set_at block t r i s j p f x l held) e)

    pub set_single : (x : ℕ) → x ≤ 32 → has_shape block t j x ≡ true → any_up_to 32 (has_only block t j) ≡ true → (p : List ℤ)
        → shapes_forbid block t r p i s j x ≡ set_forbids block t r p i s j
    unfolding has_shape has_only
    set_single x l held one p =
        let w = some-upto (has_only block t j) one in
        set-one block t r i s j x p l (held-only (shape_set block t j) w.0 x w.3 held)

    -- ---- the other row
    pub itself-none : i ≡ j → (p : List ℤ) → row_forbids block t r p i s j ≡ false
    unfolding row_forbids
    itself-none e p = rw (eq-eqb i j e)

    module _ (n : i ≡ j → ⊥) where
      pub unnamed-none : names_row block r j ≡ false → (p : List ℤ) → row_forbids block t r p i s j ≡ false
      unfolding row_forbids
      unnamed-none e p = rw (ne_eqb i j n, e)

      pub named_set : names_row block r j ≡ true → (p : List ℤ) → set_forbids block t r p i s j ≡ row_forbids block t r p i s j
      unfolding row_forbids
      named_set e p = rw (ne_eqb i j n, e)

    pub some-row : 1 ≤ j → j ≤ rows block t → (p : List ℤ) → row_forbids block t r p i s j ≡ true → rows_forbid block t r i s p ≡ true
    unfolding rows_forbid
    some-row h l p e = upto-some (row_forbids block t r p i s) j h l e
