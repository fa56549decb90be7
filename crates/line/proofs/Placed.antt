-- Words in their places with zeros past them, and what a line's answer tells. Assumes nothing.
use mathlib.Core.Path.{◌≡◌, refl, ap, ◌∙◌}
use mathlib.Core.List.{List}
use mathlib.Core.Option.{Option, none, some}
use Prim.Native.Nat.{ℕ, ◌≤◌}
use native.Mathlib.Omega.{arith}
use lib.IntN.{ℤ, pos}
use lib.ListN.{length, take, length-replicate}
use lib.Seq.{length-sets}
use Rattle.std.specs.Prelude.{Some, None}
use Rattle.stores.proofs.Stores.{take-sets}
use Rattle.sheet.specs.Layout.{record_most}
use Rattle.line.specs.Answers.{zeros, placed, line_of}

pub length-zeros : (n : ℕ) → length (zeros n) ≡ n
unfolding zeros
length-zeros n = length-replicate n (pos 0)

pub length-placed : (n : ℕ) (ws : List ℤ) → length (placed n ws) ≡ n
unfolding placed
length-placed n ws = length-sets (zeros n) 0 ws ∙ length-zeros n

pub take-placed : (n : ℕ) (ws : List ℤ) {m : ℕ} → m ≡ length ws → m ≤ n → take m (placed n ws) ≡ ws
unfolding placed
take-placed n ws {m} e h =
    ap (λ (k : ℕ). take k (placed n ws)) e ∙ take-sets (zeros n) ws (let k = length-zeros n in omega arith)

-- ---- a line's answer

pub no_words : (o : Option (List ℤ)) → line_of o ≡ None → o ≡ none
unfolding line_of
no_words none e = refl
no_words (some ws) e = cc

pub record Words (o : Option (List ℤ)) (w : List ℤ) : Type 0 where
  pub words : List ℤ
  pub are : o ≡ some words
  pub stored : w ≡ placed record_most words

pub words_of : (o : Option (List ℤ)) {w : List ℤ} → line_of o ≡ Some w → Words o w
unfolding line_of
words_of none e = absurd (cc)
words_of (some ws) e = record { words = ws; are = refl; stored = cc }
