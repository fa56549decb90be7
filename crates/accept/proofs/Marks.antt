-- The flags of the shapes that have a box, after the first m boxes: none at the start, and one more flag for each box.
-- Assumes nothing.
use mathlib.Core.Path.{◌≡◌, refl, sym, ap, ◌∙◌, subst}
use mathlib.Core.Logic.{◌⊎◌, inl, inr}
use mathlib.Core.Bool.{Bool, true, false, ◌||◌}
use mathlib.Core.List.{List}
use Prim.Native.Nat.{ℕ, ◌+◌, ◌<◌}
use native.Mathlib.Omega.{arith}
use borrow.Author.Tests.{eq-eqb, ne_eqb}
use lib.Dec.{eqb}
use lib.IntN.{ℤ, pos}
use lib.ListN.{length, get_or, set, replicate, length-set, get_or-replicate}
use lib.Seq.{get_or-set_same, get_or-set_other}
use lib.Signed.{◌≤ℤ◌}
use Rattle.integers.specs.Integer.{nat, within}
use Rattle.integers.specs.Below.{any_below}
use Rattle.integers.proofs.Booleans.{not-false, and-true, or_right, or_comm}
use Rattle.integers.proofs.Below.{same_or, all-at, any-more, any-zero}
use Rattle.integers.proofs.Ints.{ints, within-true}
use Rattle.integers.proofs.Ranges.{nat-is}
use Rattle.sheet.specs.Layout.{boxes, shape_of, is_of, valid_box}
use Rattle.sheet.specs.Refusal.{bad_box}
use Rattle.accept.specs.Parts.{Flags}

pub record Marks (block : List ℤ) (m : ℕ) (flags : List Bool) : Type 0 where
  pub long : length flags ≡ 33
  pub each : (s : ℕ) → s < 33 → get_or flags s false ≡ any_below m (λ b. is_of block b s)

-- check 6 has passed
pub box-shape : (block : List ℤ) {b : ℕ} → bad_box block ≡ false → b < boxes block → within (pos 1) (pos 32) (shape_of block b) ≡ true
unfolding bad_box valid_box
box-shape block {b} e h = (and-true (all-at (valid_box block) (not-false e) b h)).0

pub marks-none : (block : List ℤ) → Marks block 0 (replicate 33 false)
marks-none block = record { long = refl; each = λ s h. get_or-replicate 33 s false false h ∙ sym (any-zero (λ b. is_of block b s)) }

pub marks-flags : {block : List ℤ} {m : ℕ} {flags : List Bool} → m ≡ boxes block → Marks block m flags → Flags block flags
marks-flags {block} q k = record { each = λ s h. k.each s h ∙ ap (λ (n : ℕ). any_below n (λ b. is_of block b s)) q }

-- one more box, of shape t
marks-step : {block : List ℤ} {m t : ℕ} {flags : List Bool} → t ≡ nat (shape_of block m) → within (pos 1) (pos 32) (shape_of block m) ≡ true
    → Marks block m flags → Marks block (m + 1) (set flags t true)
unfolding is_of
marks-step {block} {m} {t} {flags} e w k = record { long = simp length-set k.long; each = each }
  where
    from : pos 0 ≤ℤ shape_of block m
    from = let l = within-true w in omega ints

    is : (s : ℕ) → is_of block m s ≡ eqb t s
    is s = sym (nat-is from s) ∙ ap (λ (n : ℕ). eqb n s) (sym e)

    each : (s : ℕ) → s < 33 → get_or (set flags t true) s false ≡ any_below (m + 1) (λ b. is_of block b s)
    each s h = by (same_or t s) ∙ sym (any-more m (λ b. is_of block b s))
      where
        by : (t ≡ s) ⊎ (t ≡ s → ⊥) → get_or (set flags t true) s false ≡ (any_below m (λ b. is_of block b s) || is_of block m s)
        by (inl q) =
            rw (← q) (get_or-set_same flags t true false (omega (arith, k.long)))
            ∙ sym (or_right (any_below m (λ b. is_of block b s)) (is s ∙ eq-eqb t s q))
        by (inr q) =
            get_or-set_other flags t s true false (λ p. q (sym p)) ∙ k.each s h
            ∙ sym (rw (is s ∙ ne_eqb t s q) (or_comm (any_below m (λ b. is_of block b s)) false))

pub marks-next : {block : List ℤ} {n m t : ℕ} {flags : List Bool} → n ≡ m → t ≡ nat (shape_of block n)
    → within (pos 1) (pos 32) (shape_of block n) ≡ true → Marks block m flags → Marks block (m + 1) (set flags t true)
marks-next {block} {t} {flags} q e w k =
    subst (λ (x : ℕ). Marks block (x + 1) (set flags t true)) q (marks-step e w (subst (λ (x : ℕ). Marks block x flags) (sym q) k))
