-- Where the words of a list stand: suspects in one run, known areas in another. Assumes nothing.
use Rattle.std.specs.Prelude.{List, ℕ, ◌+◌, ◌*◌, ℤ}
use Rattle.integers.specs.Integer.{nat}
use Rattle.integers.specs.Words.{word}
use Rattle.points.specs.declared.Area.{Area}
use Rattle.points.specs.Area.{area_words, area_at}

-- a suspect: its rule, its row, its area
abbrev pub suspect_len : ℕ
suspect_len = 2 + area_words

abbrev pub suspect_at : ℕ → ℕ
suspect_at e = suspect_len * e

abbrev pub suspect_row : ℕ → ℕ
suspect_row e = suspect_at e + 1

abbrev pub suspect_ends : ℕ → ℕ
suspect_ends e = suspect_at e + 2

module _ (list : List ℤ) (e : ℕ) where
  abbrev pub rule_of : ℕ
  rule_of = nat (word list (suspect_at e))

  abbrev pub row_of : ℕ
  row_of = nat (word list (suspect_row e))

  abbrev pub suspect_area : Area
  suspect_area = area_at list (suspect_ends e)

-- known areas: how many there are, then the areas; and the most of them
abbrev pub known_most : ℕ
known_most = 64

abbrev pub known_at : ℕ → ℕ
known_at e = 1 + area_words * e

abbrev pub known_count : List ℤ → ℕ
known_count known = nat (word known 0)

abbrev pub known_area : List ℤ → ℕ → Area
known_area known e = area_at known (known_at e)
