-- The number that a field spells, by its first byte; it fits a word, and so does its negative. Assumes nothing.
use mathlib.Core.Path.{◌≡◌, refl, ap, ◌∙◌}
use mathlib.Core.Logic.{⊎_elim}
use mathlib.Core.Bool.{true, false, cond, ◌&&◌}
use mathlib.Core.List.{List, [], ◌∷◌}
use mathlib.Core.Option.{Option, none, some}
use Prim.Native.Nat.{ℕ, ◌<◌}
use native.Mathlib.Omega.{arith}
use borrow.Author.Tests.{eq-eqb, ne_eqb, eqb-true}
use lib.Dec.{eqb}
use lib.IntN.{ℤ, pos, ◌-ℤ◌, +ℤ_idl}
use lib.ListN.{length, get_or, drop}
use mir.Syntax.{w64}
use mir.Val.{SFits, to_z, of_z}
use mir.Facts.{to_z-of_z}
use Rattle.std.specs.Prelude as code
use Rattle.std.specs.Prelude.{Some, None, MatchOption, IsSomeAnd}
use Rattle.integers.specs.Integer.{minus}
use Rattle.integers.proofs.Booleans.{decide, and-true}
use Rattle.integers.proofs.Ints.{ints, neg}
use Rattle.sheet.specs.Text.{positive, signed, number}
use Rattle.line.specs.Answers.{number_of}
use Rattle.line.proofs.Digits.{positive-none}

number-cons : (b : ℕ) (bs : List ℕ)
    → number (b ∷ bs) ≡ cond (eqb b 48 && eqb (length bs) 0) (some (pos 0))
    (cond (eqb b 45) (signed minus (positive bs)) (signed pos (positive (b ∷ bs))))
unfolding number
number-cons b bs = refl

-- 0 alone
pub number-zero : (s : List ℕ) → length s ≡ 1 → get_or s 0 0 ≡ 48 → number s ≡ some (pos 0)
number-zero [] h e = absurd (omega arith)
number-zero (b ∷ bs) h e = number-cons b bs ∙ rw (eq-eqb b 48 e, eq-eqb (length bs) 0 (omega arith))

pub number-minus : (s : List ℕ) → 0 < length s → get_or s 0 0 ≡ 45 → number s ≡ signed minus (positive (drop 1 s))
number-minus [] h e = absurd (omega arith)
number-minus (b ∷ bs) h e = number-cons b bs ∙ rw e

-- no other number begins with 0
pub number-plain : (s : List ℕ) → (length s ≡ 1 → get_or s 0 0 ≡ 48 → ⊥) → (0 < length s → get_or s 0 0 ≡ 45 → ⊥) → number s ≡ signed pos (positive s)
unfolding number signed
number-plain [] h e = rw (positive-none [] refl)
number-plain (b ∷ bs) h e =
    ⊎_elim
    (λ (z : eqb b 48 && eqb (length bs) 0 ≡ true).
    let k = and-true {a = eqb b 48} z in
    absurd (h (let l = eqb-true (length bs) 0 k.1 in omega arith) (eqb-true b 48 k.0)))
    (λ (z : eqb b 48 && eqb (length bs) 0 ≡ false). number-cons b bs ∙ rw (z, ne_eqb b 45 (e (omega arith))))
    (decide (eqb b 48 && eqb (length bs) 0))

-- ---- as words

pub word_fits : {v : ℕ} → v < 10000000000 → SFits w64 (pos v)
word_fits h = omega ints

pub minus-fits : {v : ℕ} → v < 10000000000 → SFits w64 (minus v)
minus-fits {v} h = let n = neg (pos v) in omega ints

pub word-is : {v : ℕ} → v < 10000000000 → to_z w64 v ≡ pos v
word-is {v} h = to_z-of_z {w = w64} {z = pos v} (word_fits h)

-- the code's negation of a word that is v
pub minus_is : {z : ℤ} {v : ℕ} → z ≡ pos v → v < 10000000000 → pos 0 -ℤ to_z w64 (of_z w64 z) ≡ minus v
minus_is {z} {v} e h =
    ap (λ (x : ℤ). pos 0 -ℤ to_z w64 (of_z w64 x)) e ∙ ap (λ (x : ℤ). pos 0 -ℤ x) (to_z-of_z (word_fits h)) ∙ +ℤ_idl (minus v)

-- ---- what the code's answer tells of the definition's

pub number-found : (o : Option ℤ) {v : ℤ} → number_of o ≡ Some v → o ≡ some v
number-found none e = cc
number-found (some w) e = cc

pub number-missing : (o : Option ℤ) → number_of o ≡ None → o ≡ none
number-missing none e = refl
number-missing (some w) e = cc

-- a positive number as the code has it, and its negative
pub record Positive (o : Option ℕ) (z : ℤ) : Type 0 where
  pub n : ℕ
  pub is : o ≡ some n
  pub word : z ≡ pos n

pub signed-some : (o : Option ℕ) {z : ℤ} → signed pos o ≡ some z → Positive o z
unfolding signed
signed-some none e = let z : ◌≡◌ {A = ℕ} 0 1 = cc in absurd (omega arith)
signed-some (some n) e = record { n = n; is = refl; word = cc }

-- the code's negation of a number, and none of none
pub negated : (o : Option ℕ) {r m : code.Option ℤ} {P : ℤ → ℤ → Type 0} → ((v : ℕ) → o ≡ some v → v < 10000000000)
    → r ≡ number_of (signed pos o) → MatchOption r (m ≡ None) (λ z. IsSomeAnd m (P z))
    → ((z y : ℤ) → P z y → y ≡ to_z w64 (of_z w64 (pos 0 -ℤ to_z w64 (of_z w64 z)))) → m ≡ number_of (signed minus o)
unfolding signed
negated none {r} {m} {P} small e h g = let k = rw e at h in k
negated (some n) {r} {m} {P} small e h g = made m (rw e at h)
  where
    made : (m : code.Option ℤ) → IsSomeAnd m (P (pos n)) → m ≡ Some (minus n)
    made None k = absurd k
    made (Some y) k =
        let f = small n refl in
        ap (λ (x : ℤ). Some x) (g (pos n) y k ∙ ap (λ (x : ℤ). to_z w64 (of_z w64 x)) (minus_is refl f) ∙ to_z-of_z (minus-fits f))
