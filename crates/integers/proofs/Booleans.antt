-- Tests as equations with `true` and `false`, which is how a branch of the code leaves them: each connective in and out.
-- antt reads the parts of `a && b` off what the result is used for; where it is not used, write them, `and-true {a = ..} e`.
-- Assumes nothing.
use mathlib.Core.Path.{◌≡◌, refl, sym, ◌∙◌, subst}
use mathlib.Core.Logic.{◌⊎◌, inl, inr}
use mathlib.Core.Bool.{Bool, true, false, not, ◌&&◌, ◌||◌, and_comm}
pub use mathlib.Core.Bool.{or_comm}
use borrow.Author.Tests as Tests
use lib.Dec.{T}
use Rattle.integers.specs.Below.{◌⇒◌}

-- ---- a test and its statement
pub true-T : {b : Bool} → b ≡ true → T b
true-T e = subst T (sym e) tt

pub T_true : (b : Bool) → T b → b ≡ true
T_true true t = refl
T_true false t = absurd t

pub clash {ℓ} : {X : Type ℓ} {b : Bool} → b ≡ true → b ≡ false → X
clash e g = absurd (subst T (sym e ∙ g) tt)

pub decide : (b : Bool) → (b ≡ true) ⊎ (b ≡ false)
decide true = inl refl
decide false = inr refl

-- two tests that pass together are equal
pub both_ways : (a b : Bool) → (a ≡ true → b ≡ true) → (b ≡ true → a ≡ true) → a ≡ b
both_ways true b f g = sym (f refl)
both_ways false true f g = g refl
both_ways false false f g = refl

-- ---- not
pub not-true : {b : Bool} → not b ≡ true → b ≡ false
not-true {b} e = Tests.not-true b e

pub not-false : {b : Bool} → not b ≡ false → b ≡ true
not-false {b} e = Tests.not-false b e

-- what cannot fail passes, and the other way round
pub passes : {b : Bool} → (b ≡ false → ⊥) → b ≡ true
passes {b = true} f = refl
passes {b = false} f = absurd (f refl)

pub fails : {b : Bool} → (b ≡ true → ⊥) → b ≡ false
fails {b = true} f = absurd (f refl)
fails {b = false} f = refl

-- ---- and
pub and-true : {a b : Bool} → (a && b) ≡ true → (a ≡ true) × (b ≡ true)
and-true {a = true} {b} e = (refl, e)
and-true {a = false} {b} e = clash e refl

pub true-and : {a b : Bool} → a ≡ true → b ≡ true → (a && b) ≡ true
true-and e g = rw (e, g)

-- of two tests the one that implies the other is both
pub and_left : (a b : Bool) → (a ≡ true → b ≡ true) → a ≡ (a && b)
and_left a b f = both_ways a (a && b) (λ e. true-and e (f e)) (λ e. (and-true {a = a} e).0)

pub and_right : (a b : Bool) → (b ≡ true → a ≡ true) → b ≡ (a && b)
and_right a b f = and_left b a f ∙ and_comm b a

pub and-swap : (a b c d : Bool) → ((a && b) && (c && d)) ≡ ((a && c) && (b && d))
and-swap a b c d = both_ways _ _ (turn a b c d) (turn a c b d)
  where
    turn : (a b c d : Bool) → ((a && b) && (c && d)) ≡ true → ((a && c) && (b && d)) ≡ true
    turn a b c d e =
        let l : (a && b ≡ true) × (c && d ≡ true) = and-true e in
        let x : (a ≡ true) × (b ≡ true) = and-true l.0 in
        let y : (c ≡ true) × (d ≡ true) = and-true l.1 in
        true-and (true-and x.0 y.0) (true-and x.1 y.1)

-- ---- or
pub or-true : {a b : Bool} → (a || b) ≡ true → (a ≡ true) ⊎ (b ≡ true)
or-true {a = true} {b} e = inl refl
or-true {a = false} {b} e = inr e

pub or-false : {a b : Bool} → (a || b) ≡ false → (a ≡ false) × (b ≡ false)
or-false {a = true} {b} e = clash refl e
or-false {a = false} {b} e = (refl, e)

pub or_left : {a : Bool} (b : Bool) → a ≡ true → (a || b) ≡ true
or_left b e = rw e

pub or_right : (a : Bool) {b : Bool} → b ≡ true → (a || b) ≡ true
or_right true e = refl
or_right false e = e

pub false-or : {a b : Bool} → a ≡ false → b ≡ false → (a || b) ≡ false
false-or e g = rw (e, g)

-- De Morgan
pub nor : (a b : Bool) → (not a && not b) ≡ not (a || b)
nor true b = refl
nor false b = refl

-- ---- implies
pub implies_true : {a b : Bool} → (a ⇒ b) ≡ true → a ≡ true → b ≡ true
unfolding ◌⇒◌
implies_true {a = true} e g = e
implies_true {a = false} e g = clash g refl

pub true_implies : {a b : Bool} → (a ≡ true → b ≡ true) → (a ⇒ b) ≡ true
unfolding ◌⇒◌
true_implies {a = true} f = f refl
true_implies {a = false} f = refl

pub implies-not : (a b : Bool) → (a ⇒ not b) ≡ not (a && b)
unfolding ◌⇒◌
implies-not true b = refl
implies-not false b = refl

-- what follows from a test that passes, and from one that fails
pub implies-in : {a : Bool} (b : Bool) → a ≡ true → (a ⇒ b) ≡ b
unfolding ◌⇒◌
implies-in b e = rw e

pub implies-out : {a : Bool} (b : Bool) → a ≡ false → (a ⇒ b) ≡ true
unfolding ◌⇒◌
implies-out b e = rw e
