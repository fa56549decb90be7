-- A text's parts and a line's fields, as the code walks over them: the next part ends before the first separator, and past the text's
-- end there is none. Assumes nothing.
use Rattle.std.specs.Prelude.{true, false, cond, List, [], ◌∷◌, ℕ, eqb, leb, ℤ, length, drop}
use Rattle.std.proofs.Math.Option.{Option, none}
use Rattle.sheet.specs.Text.{split, numbers}

-- the bytes before the first byte sep
unfoldable pub until : ℕ → List ℕ → List ℕ
until sep [] = []
until sep (b ∷ bs) = elim (eqb b sep) [ true ↦ [] | false ↦ b ∷ until sep bs ]

-- the parts of a text from a place on; a last part that no separator ends is followed by the place one past the text's end
unfoldable pub parts_from : ℕ → List ℕ → ℕ → List (List ℕ)
parts_from sep s p = cond (leb p (length s)) (split sep (drop p s)) []

-- the words of fields that are n numbers, no fewer and no more
unfoldable pub numbers_in : ℕ → List (List ℕ) → Option (List ℤ)
numbers_in n fs = cond (eqb (length fs) n) (numbers fs) none
