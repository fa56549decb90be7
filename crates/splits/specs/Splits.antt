-- What a split of a table leans on, and what its two parts are. Assumes nothing.
use Rattle.std.specs.Prelude.{◌≡◌, Bool, true, ◌&&◌, List, ℕ, ℤ, pos, ◌+ℤ◌, ◌≤ℤ◌, ◌<ℤ◌, Option, MatchOption}
use Rattle.integers.specs.Integer.{minus, within}
use Rattle.integers.specs.Bits.{holds}
use Rattle.sheet.specs.Placement.{fixed}
use Rattle.sheet.specs.Settle.{Inside}
use Rattle.sheet.specs.Refusal.{refusal}
use Rattle.sheet.specs.Accepted.{Head, Table}
use Rattle.sheet.specs.Cuts.{HasNumber, is_open, number, cut_to}
use Rattle.sheet.specs.FirstLayout.{Places}
use Rattle.splits.specs.declared.Split.{Split}

-- no value that is open for a number is farther from 0
abbrev pub far : ℕ
far = 1000000

-- shape s of a set has a number from a to b
unfoldable pub is_between : ℕ → ℤ → ℤ → ℕ → Bool
is_between set a b s = holds (pos set) s && within a b (pos s)

module _ (block : List ℤ) (t : List ℤ) where
  -- number c of row i, in a table whose words may be leaned on
  pub record OnNumber (i c : ℕ) : Type 0 where
    pub head : Head block
    pub table : Table block t
    pub has : HasNumber block t i c

  -- its values up to z, and those past z
  abbrev pub upto_value : ℕ → ℕ → ℤ → List ℤ
  upto_value i c z = cut_to block t i c (minus far) z

  abbrev pub past_value : ℕ → ℕ → ℤ → List ℤ
  past_value i c z = cut_to block t i c (z +ℤ pos 1) (pos far)

  -- besides the least some value is open for it
  pub record Several (i c : ℕ) : Type 0 where
    pub next : ℤ
    pub opens : is_open block t i c next ≡ true
    pub past : number block t i c <ℤ next

  -- z parts the values: the least is at most z, and some value that is open is past z
  pub record SplitAt (i c : ℕ) (z : ℤ) : Type 0 where
    pub has : HasNumber block t i c
    pub from : number block t i c ≤ℤ z
    pub next : ℤ
    pub opens : is_open block t i c next ≡ true
    pub past : z <ℤ next

  -- what is picked: a number that can be split at the value; none where the table is fixed
  abbrev pub Picked : Option Split → Type 0
  Picked r = MatchOption r (fixed block t ≡ true) (λ s. SplitAt s.row s.column s.at)

-- v is an accepted part of t: it lies inside, and t keeps the placements of v
pub record Part (block t v : List ℤ) : Type 0 where
  pub accepted : refusal block v ≡ 0
  pub inside : Inside block v t
  pub places : (p : List ℤ) → Places block v p → Places block t p
