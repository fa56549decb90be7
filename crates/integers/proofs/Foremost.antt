-- Laws of `foremost`: what a loop needs that begins with a value past them all (`foremost-zero`, `foremost-more`), and that it finds the
-- value of a number that passes, at or before that of each (`foremost-found`). Assumes nothing.
use mathlib.Core.Path.{◌≡◌, refl, sym, ap, ap₂, ◌∙◌, subst}
use mathlib.Core.Logic.{◌⊎◌, inl, inr, ⊎_elim}
use mathlib.Core.Bool.{Bool, true, false, cond}
use mathlib.Core.Option.{Option, none, some}
use Prim.Native.Nat.{ℕ, zero, suc, ◌+◌, ◌<◌}
use native.Mathlib.Nat.{not-suc-le-zero}
use native.Mathlib.Numerals.{add-one}
use native.Mathlib.Omega.{arith}
use Rattle.integers.specs.Below.{foremost, value_or}
use Rattle.integers.proofs.Booleans.{clash, passes}
use Rattle.integers.proofs.Below.{NoneBelow, none_more, last_or}

pub record Order {ℓ} {A : Type ℓ} (before : A → A → Bool) : Type ℓ where
  pub total : (x y : A) → before x y ≡ false → before y x ≡ true
  pub through : {x y z : A} → before x y ≡ true → before y z ≡ true → before x z ≡ true

-- z is the value of a number that passes, at or before that of each
pub record Foremost {ℓ} {A : Type ℓ} (before : A → A → Bool) (n : ℕ) (p : ℕ → Bool) (f : ℕ → A) (z : A) : Type ℓ where
  pub at : ℕ
  pub below : at < n
  pub passes : p at ≡ true
  pub is : f at ≡ z
  pub first : (i : ℕ) → i < n → p i ≡ true → before z (f i) ≡ true

-- a value more, after those that o is the first of
abbrev joined {ℓ} : {A : Type ℓ} → (A → A → Bool) → A → Option A → A
joined before y o = elim o [ some z ↦ cond (before z y) z y | none ↦ y ]

module _ {ℓ} {A : Type ℓ} (before : A → A → Bool) (p : ℕ → Bool) (f : ℕ → A) where
  -- ---- a loop
  pub foremost-zero : (far : A) → value_or far (foremost before 0 p f) ≡ far
  unfolding foremost value_or
  foremost-zero far = refl

  pub foremost-more : (n : ℕ) (far : A) → (p n ≡ true → before far (f n) ≡ false)
      → let x = value_or far (foremost before n p f) in
      value_or far (foremost before (n + 1) p f) ≡ cond (p n) (cond (before x (f n)) x (f n)) x
  unfolding foremost value_or
  foremost-more n far h = rw add-one (by (p n) (foremost before n p f) h)
    where
      by : (t : Bool) (o : Option A) → (t ≡ true → before far (f n) ≡ false)
          → value_or far (cond t (some (joined before (f n) o)) o)
          ≡ cond t (cond (before (value_or far o) (f n)) (value_or far o) (f n)) (value_or far o)
      by false o h = refl
      by true none h = rw (h refl)
      by true (some z) h = refl

  -- ---- what it finds
  abbrev Outcome : ℕ → Type ℓ
  Outcome n = ((z : A) × (foremost before n p f ≡ some z) × Foremost before n p f z) ⊎ ((foremost before n p f ≡ none) × NoneBelow n p)

  module _ (order : Order before) where
    here : (x : A) → before x x ≡ true
    here x = passes (λ e. clash (order.total x x e) e)

    -- a first value z of those below n + 1, where those below n come at or after it
    more : {n : ℕ} {z : A} → before z (f n) ≡ true → ((i : ℕ) → i < n → p i ≡ true → before z (f i) ≡ true)
        → (i : ℕ) → i < suc n → p i ≡ true → before z (f i) ≡ true
    more {z = z} e g i h t = ⊎_elim (λ q. subst (λ (m : ℕ). before z (f m) ≡ true) (sym q) e) (λ l. g i l t) (last_or h)

    view : (n : ℕ) → Outcome n
    unfolding foremost
    view zero = inr (refl, λ i h. absurd (not-suc-le-zero h))
    view (suc n) = step (view n) (p n) refl
      where
        next : Bool → Option A → Option A
        next t o = cond t (some (joined before (f n) o)) o

        join : (w : (z : A) × (foremost before n p f ≡ some z) × Foremost before n p f z) (t : Bool) → before w.0 (f n) ≡ t → p n ≡ true
            → (z : A) × (next (p n) (foremost before n p f) ≡ some z) × Foremost before (suc n) p f z
        join (z, q, w) true e t = (
          z,
          ap₂ next t q ∙ ap (λ (b : Bool). some (cond b z (f n))) e,
          record {
            at = w.at;
            below = omega (arith, w.below);
            passes = w.passes;
            is = w.is;
            first = more e w.first;
          },
        )
        join (z, q, w) false e t = (
          f n,
          ap₂ next t q ∙ ap (λ (b : Bool). some (cond b z (f n))) e,
          record {
            at = n;
            below = omega arith;
            passes = t;
            is = refl;
            first = more (here (f n)) (λ i l s. order.through (order.total _ _ e) (w.first i l s));
          },
        )

        step : Outcome n → (t : Bool) → p n ≡ t
            → ((z : A) × (next (p n) (foremost before n p f) ≡ some z) × Foremost before (suc n) p f z)
            ⊎ ((next (p n) (foremost before n p f) ≡ none) × NoneBelow (suc n) p)
        step (inl w) true t = inl (join w (before w.0 (f n)) refl t)
        step (inl (z, q, w)) false t = inl (
          z,
          ap₂ next t q,
          record {
            at = w.at;
            below = omega (arith, w.below);
            passes = w.passes;
            is = w.is;
            first = λ i h s. ⊎_elim (λ e. clash (ap p (sym e) ∙ s) t) (λ l. w.first i l s) (last_or h);
          },
        )
        step (inr w) true t = inl (
          f n,
          ap₂ next t w.0,
          record {
            at = n;
            below = omega arith;
            passes = t;
            is = refl;
            first = more (here (f n)) (λ i l s. clash s (w.1 i l));
          },
        )
        step (inr w) false t = inr (ap₂ next t w.0, none_more p w.1 t)

    -- where a number passes
    pub foremost-found : {n : ℕ} (i : ℕ) → i < n → p i ≡ true → (far : A) → Foremost before n p f (value_or far (foremost before n p f))
    unfolding value_or
    foremost-found {n} i h t far =
        ⊎_elim (λ w. subst (λ (o : Option A). Foremost before n p f (value_or far o)) (sym w.1) w.2) (λ w. clash t (w.1 i h)) (view n)

    -- whatever stands for none
    pub foremost-any : {n : ℕ} (i : ℕ) → i < n → p i ≡ true → (far near : A)
        → value_or far (foremost before n p f) ≡ value_or near (foremost before n p f)
    unfolding value_or
    foremost-any {n} i h t far near =
        ⊎_elim (λ w. ap (value_or far) w.1 ∙ sym (ap (value_or near) w.1)) (λ w. clash t (w.1 i h)) (view n)
