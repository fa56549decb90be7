-- The numbers below n: tests of all and of some of them, sums, products, the first and the last that passes a test.
-- Each stops early: what a `let` binds is computed only where the test before it leaves the answer open.
-- Assumes nothing.
use Rattle.std.specs.Prelude.{Bool, true, false, cond, ◌&&◌, ◌||◌, ℕ, zero, suc, ◌+◌, ◌*◌, ◌≤◌}
use Rattle.std.proofs.Math.Option.{Option, none, some}

-- a implies b
infixr 25 ◌⇒◌
unfoldable pub ◌⇒◌ : Bool → Bool → Bool
true ⇒ b = b
false ⇒ b = true

-- f passes at each, at some, of the numbers 0 to n − 1
unfoldable pub all_below : ℕ → (ℕ → Bool) → Bool
all_below zero f = true
all_below (suc n) f = let last = f n in all_below n f && last

unfoldable pub any_below : ℕ → (ℕ → Bool) → Bool
any_below zero f = false
any_below (suc n) f = let last = f n in any_below n f || last

-- and of the numbers 1 to n
abbrev pub all_up_to : ℕ → (ℕ → Bool) → Bool
all_up_to n f = all_below n (λ m. f (suc m))

abbrev pub any_up_to : ℕ → (ℕ → Bool) → Bool
any_up_to n f = any_below n (λ m. f (suc m))

-- i is one of these
pub record UpTo (n i : ℕ) : Type 0 where
  pub from : 1 ≤ i
  pub upto : i ≤ n

-- f 0 + .. + f (n − 1)
unfoldable pub sum_below : ℕ → (ℕ → ℕ) → ℕ
sum_below zero f = 0
sum_below (suc n) f = sum_below n f + f n

-- f 0 · .. · f (n − 1)
unfoldable pub product_below : ℕ → (ℕ → ℕ) → ℕ
product_below zero f = 1
product_below (suc n) f = product_below n f * f n

-- the least, the greatest, of the numbers 0 to n − 1 at which f passes
unfoldable pub least_below : ℕ → (ℕ → Bool) → Option ℕ
least_below zero f = none
least_below (suc n) f = elim (least_below n f) [ some c ↦ some c | none ↦ cond (f n) (some n) none ]

unfoldable pub greatest_below : ℕ → (ℕ → Bool) → Option ℕ
greatest_below zero f = none
greatest_below (suc n) f = let before = greatest_below n f in cond (f n) (some n) before

-- the first, in an order, of the values of f at the numbers 0 to n − 1 that pass p
unfoldable pub foremost {ℓ} : {A : Type ℓ} → (A → A → Bool) → ℕ → (ℕ → Bool) → (ℕ → A) → Option A
foremost before zero p f = none
foremost before (suc n) p f =
    let rest = foremost before n p f in
    cond (p n) (some (elim rest [ some z ↦ cond (before z (f n)) z (f n) | none ↦ f n ])) rest

-- the first of f 0 to f (n − 1) that is something
unfoldable pub first_some {ℓ} : {A : Type ℓ} → ℕ → (ℕ → Option A) → Option A
first_some zero f = none
first_some (suc n) f = elim (first_some n f) [ some x ↦ some x | none ↦ f n ]

-- the value, or x where there is none
unfoldable pub value_or {ℓ} : {A : Type ℓ} → A → Option A → A
value_or x none = x
value_or x (some y) = y
