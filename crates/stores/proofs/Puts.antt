-- Puts one after the other; what is left of a run of puts, which is what a loop's invariant says; and a put that has room.
-- Assumes nothing.
use mathlib.Core.Path.{◌≡◌, refl, sym, ap, ◌∙◌}
use mathlib.Core.List.{List, [], ◌∷◌, ◌++◌}
use Prim.Native.Nat.{ℕ, ◌+◌}
use native.Mathlib.Omega.{arith}
use lib.ListN.{length, set, length-append}
use lib.Seq.{sets, length-sets}
use Rattle.stores.specs.Put.{Put}
use Rattle.stores.proofs.Stores.{sets-append}

module _ {A : Type 0} where
  pub put-none : (l : List A) (at : ℕ) → Put l at [] at l
  put-none l at = record { past = omega arith; stored = refl }

  pub put_one : {l m : List A} {at : ℕ} {a : A} → m ≡ set l at a → Put l at (a ∷ []) (at + 1) m
  put_one e = record { past = omega arith; stored = e }

  pub put-more : {l m o : List A} {at p q : ℕ} {v w : List A} → Put l at v p m → Put m p w q o → Put l at (v ++ w) q o
  put-more {l} {m} {o} {at} {p} {q} {v} {w} a b = record {
    past = (let u = length-append v w in omega (arith, a.past, b.past));
    stored = b.stored ∙ ap (λ (x : List A). sets x p w) a.stored
        ∙ ap (λ (k : ℕ). sets (sets l at v) k w) a.past
        ∙ sym (sets-append l at v w);
  }

  pub put_as : {l m : List A} {at p : ℕ} {v w : List A} → v ≡ w → Put l at v p m → Put l at w p m
  put_as e a = rw e at a

  pub put-length : {l m : List A} {at p : ℕ} {v : List A} → Put l at v p m → length m ≡ length l
  put-length {l} {m} {at} {p} {v} a = ap length a.stored ∙ length-sets l at v

  -- with `rest` put into `now` from p on, `whole` is put into `first` from `at` on
  pub record Left (first : List A) (at : ℕ) (whole now : List A) (p : ℕ) (rest : List A) : Type 0 where
    pub past : p + length rest ≡ at + length whole
    pub stored : sets now p rest ≡ sets first at whole

  pub left-all : (l : List A) (at : ℕ) (v : List A) → Left l at v l at v
  left-all l at v = record { past = refl; stored = refl }

  pub left-more : {l m o : List A} {at p q : ℕ} {whole rest v w : List A}
      → Left l at whole m p rest → rest ≡ v ++ w → Put m p v q o → Left l at whole o q w
  left-more {l} {m} {o} {at} {p} {q} {whole} {rest} {v} {w} k e a = record {
    past = (let u = length-append v w in let z = ap length e in omega (arith, a.past, k.past));
    stored = ap (λ (x : List A). sets x q w) a.stored
        ∙ ap (λ (i : ℕ). sets (sets m p v) i w) a.past
        ∙ sym (sets-append m p v w)
        ∙ ap (sets m p) (sym e)
        ∙ k.stored;
  }

  pub left-done : {l m o : List A} {at p q : ℕ} {whole rest : List A} → Left l at whole m p rest → Put m p rest q o → Put l at whole q o
  left-done k a = record { past = a.past ∙ k.past; stored = a.stored ∙ k.stored }

  pub left-length : {l m : List A} {at p : ℕ} {whole rest : List A} → Left l at whole m p rest → length m ≡ length l
  left-length {l} {m} {at} {p} {whole} {rest} k =
      sym (length-sets m p rest) ∙ ap length k.stored ∙ length-sets l at whole
