-- Marks after some cells of a line, and after some lines; how many marks there are: one cell, one line, more each turn. Assumes nothing.
use mathlib.Core.Path.{◌≡◌, sym, ap, ◌∙◌}
use mathlib.Core.Logic.{⊎_elim}
use mathlib.Core.Bool.{Bool, true, false, cond, ◌||◌, or_assoc, or_comm}
use mathlib.Core.List.{List}
use Prim.Native.Nat.{ℕ, ◌+◌, ◌≤◌, ◌<◌}
use native.Mathlib.Omega.{arith}
use borrow.Author.Tests.{leb-true, ltb-true, le-leb, lt-ltb}
use borrow.Rule.Slice.PartMut.{put_mid}
use lib.ListN.{length, get_or, replicate}
use Rattle.std.proofs.lemmas.List.{places}
use Rattle.integers.specs.Below.{any_below, sum_below}
use Rattle.integers.proofs.Booleans.{fails, and-true, true-and, or_right}
use Rattle.integers.proofs.Below.{below_or, any-more, any-zero}
use Rattle.integers.proofs.Digits.{sum_more}
use Rattle.grid.specs.Grid.{in_line}

-- ---- the cells of a line
pub line_at : (start n m : ℕ) → in_line start n m ≡ true → (start ≤ m) × (m < start + n)
unfolding in_line
line_at start n m e = let p = and-true e in (leb-true _ _ p.0, ltb-true _ _ p.1)

pub at-line : {start m : ℕ} (n : ℕ) → start ≤ m → m < start + n → in_line start n m ≡ true
unfolding in_line
at-line n l h = true-and (le-leb _ _ l) (lt-ltb _ _ h)

-- ---- marks to which those of a test are added
abbrev pub Added : List Bool → List Bool → (ℕ → Bool) → Type 0
Added old marks f = (m : ℕ) → get_or marks m false ≡ (get_or old m false || f m)

none-added : (old : List Bool) {f : ℕ → Bool} → ((m : ℕ) → f m ≡ false) → Added old old f
none-added old {f} h m = sym (ap (λ (b : Bool). get_or old m false || b) (h m) ∙ or_comm (get_or old m false) false)

-- the cells of a line filled with marks
module _ (old : List Bool) (start n : ℕ) {k : ℕ} (e : k ≡ n) (l : start + n ≤ length old) where
  abbrev filled : List Bool
  filled = put_mid start k old (replicate n true)

  outside : (m : ℕ) → get_or filled m false ≡ get_or old m false → (in_line start n m ≡ true → ⊥)
      → get_or filled m false ≡ (get_or old m false || in_line start n m)
  outside m same out = same ∙ sym (ap (λ (b : Bool). get_or old m false || b) (fails (λ t. absurd (out t))) ∙ or_comm (get_or old m false) false)

  pub line-filled : Added old filled (in_line start n)
  line-filled m =
      ⊎_elim
      (λ b. outside m (grind (arith, places)) (λ t. let p = line_at start n m t in omega arith))
      (λ a. ⊎_elim
      (λ b. let t : get_or filled m false ≡ true = grind (arith, places) in t ∙ sym (or_right (get_or old m false) (at-line n a b)))
      (λ b. outside m (grind (arith, places)) (λ t. let p = line_at start n m t in omega arith))
      (below_or m (start + n)))
      (below_or m start)

pub no_line : (old : List Bool) (f : ℕ → ℕ → Bool) → Added old old (λ m. any_below 0 (λ j. f j m))
no_line old f = none-added old (λ m. any-zero (λ j. f j m))

pub line-more : (old marks new : List Bool) (f : ℕ → ℕ → Bool) (j : ℕ) → Added old marks (λ m. any_below j (λ i. f i m)) → Added marks new (f j)
    → Added old new (λ m. any_below (j + 1) (λ i. f i m))
line-more old marks new f j h more m =
    more m ∙ ap (λ (b : Bool). b || f j m) (h m) ∙ or_assoc (get_or old m false) (any_below j (λ i. f i m)) (f j m)
    ∙ ap (λ (b : Bool). get_or old m false || b) (sym (any-more j (λ i. f i m)))

-- ---- how many are marked
abbrev pub marked : List Bool → ℕ → ℕ
marked marks n = sum_below n (λ m. cond (get_or marks m false) 1 0)

pub count_yes : (marks : List Bool) (m : ℕ) {c : ℕ} → c ≡ marked marks m → get_or marks m false ≡ true → c + 1 ≡ marked marks (m + 1)
count_yes marks m e t = omega (arith, sum_more m (λ i. cond (get_or marks i false) 1 0), ap (λ (b : Bool). cond {A = ℕ} b 1 0) t)

pub count_no : (marks : List Bool) (m : ℕ) {c : ℕ} → c ≡ marked marks m → get_or marks m false ≡ false → c ≡ marked marks (m + 1)
count_no marks m e t = omega (arith, sum_more m (λ i. cond (get_or marks i false) 1 0), ap (λ (b : Bool). cond {A = ℕ} b 1 0) t)
