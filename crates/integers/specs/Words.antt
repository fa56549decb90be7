-- Runs of words: reading one, making one of a function, replacing a part, comparing two.
-- Assumes nothing.
use Rattle.std.specs.Prelude.{Bool, true, false, ◌&&◌, List, [], ◌∷◌, ◌++◌, ℕ, zero, suc, ◌+◌, ℤ, pos, length, get_or, take, drop}
use Rattle.integers.specs.Integer.{eq_z}

-- a word of a run; past the end, 0
abbrev pub word : List ℤ → ℕ → ℤ
word words at = get_or words at (pos 0)

-- f 0 to f (n − 1)
unfoldable pub list_below {ℓ} : {A : Type ℓ} → ℕ → (ℕ → A) → List A
list_below zero f = []
list_below (suc n) f = list_below n f ++ (f n ∷ [])

-- f 0, g 0 to f (n − 1), g (n − 1)
unfoldable pub pairs_below : ℕ → (ℕ → ℤ) → (ℕ → ℤ) → List ℤ
pairs_below zero f g = []
pairs_below (suc n) f g = pairs_below n f g ++ (f n ∷ g n ∷ [])

-- a run with other words from a place on
unfoldable pub replaced : List ℤ → ℕ → List ℤ → List ℤ
replaced words at new = take at words ++ (new ++ drop (at + length new) words)

-- word for word the same
unfoldable pub same_words : List ℤ → List ℤ → Bool
same_words [] [] = true
same_words [] (y ∷ ys) = false
same_words (x ∷ xs) [] = false
same_words (x ∷ xs) (y ∷ ys) = let rest = same_words xs ys in eq_z x y && rest
