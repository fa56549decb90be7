-- What `map` over a point's words asks of its closure, and what it gives where the closure computes a function. Assumes nothing.
use mathlib.Core.Path.{◌≡◌, sym, subst, ◌∙◌}
use mathlib.Core.List.{List, [], ◌∷◌, map}
use Prim.Native.Nat.{ℕ, ◌<◌}
use native.Mathlib.Omega.{arith}
use denote.Param.Members.{Mut}
use lib.IntN.{ℤ, pos}
use lib.ListN.{length, length-map}
use Rattle.std.specs.Array.{list_steps, IsMapOf}
use Rattle.std.specs.Fn.{Called}
use Rattle.std.specs.Iterator.{Yields, CallableAtEachTurn}
use Rattle.integers.specs.Words.{word}
use Rattle.integers.proofs.Lists.{words-ext}
use Rattle.sweep.proofs.Points.{word-map}

-- the word that comes after some
word-next : (p xs t : List ℤ) (x : ℤ) (u : List ℤ) → Yields list_steps p xs t → t ≡ x ∷ u → word p (length xs) ≡ x
word-next p [] t x u y z = rw (y, z)
word-next p (a ∷ xs) t x u y z = rw y.1 (word-next y.0 xs t x u y.2 z)

-- the closure may be called at each word
pub serves-words : {P : Type 0} {R : P → ℤ → P → Type 0} {Q : P → ℤ → Type 0} {p : List ℤ} {f : P} → ((i : ℕ) (q : P) → Q q (word p i))
    → CallableAtEachTurn list_steps R Q p f
serves-words {Q} {p} h = record { at = λ xs t q x u y c z. subst (Q q) (word-next p xs t x u y z) (h (length xs) q) }

pub mapped : {F : Type 0} {g : Mut F (ℤ × Unit {0}) ℤ} {f : F} {p q : List ℤ} {n : ℕ} (h : ℤ → ℤ) → IsMapOf g f p q n → length p ≡ n
    → ((i : ℕ) (y : ℤ) (a b : F) → Called g a (word p i, tt) y b → y ≡ h (word p i)) → q ≡ map h p
mapped {p} {q} {n} h m long computes =
    words-ext (m.long ∙ sym (length-map p h ∙ long))
    (λ i l.
    let k : i < n = omega (arith, m.long) in
    let w = m.at i (pos 0) (pos 0) k in
    computes i (word q i) w.0 w.1 w.2 ∙ sym (word-map h p i (omega arith)))
