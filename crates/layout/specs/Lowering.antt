-- Lowering a placement's numbers one after another. The best placement so far lies inside the rest of the table, in which every placement has
-- its numbers before number m; and every placement of the table that precedes the best lies inside the rest. Assumes nothing.
use Rattle.std.specs.Prelude.{◌≡◌, ◌⊎◌, List, ℕ, suc, ◌/◌, ◌%◌, ◌<◌, ℤ, ◌-ℤ◌}
use Rattle.integers.specs.Integer.{nat, Within}
use Rattle.sheet.specs.Accepted.{Head, Table}
use Rattle.sheet.specs.FirstLayout.{Places, per_row, numbers, number_at, Precedes}
use Rattle.splits.specs.declared.Split.{Split}
use Rattle.splits.specs.Splits.{far, upto_value, past_value, Part}
use Rattle.layout.specs.Search.{Small, NoPlacement}

module _ (block : List ℤ) where
  -- a table whose words may be leaned on
  pub record OnTable (t : List ℤ) : Type 0 where
    pub head : Head block
    pub table : Table block t

  -- number m as a number of a row, and the least value that is open for it
  pub record LeastOf (t : List ℤ) (m : ℕ) (s : Split) : Type 0 where
    pub row : s.row ≡ suc (m / per_row block)
    pub column : s.column ≡ m % per_row block
    pub least : s.at ≡ number_at block t m
    pub near : Within far s.at

  -- the best is a placement inside the rest that has a value up to the split; or there is none, and the rest keeps the values past it
  pub data Probed (t b : List ℤ) (s : Split) (rest best : List ℤ) : Type 0 where
    found : Places block (upto_value block t s.row s.column s.at) best → rest ≡ t → Probed t b s rest best
    missing : NoPlacement block (upto_value block t s.row s.column s.at) → rest ≡ past_value block t s.row s.column s.at → best ≡ b
        → Probed t b s rest best

  -- every placement inside the rest has the best's numbers before number m
  abbrev pub Agree : ℕ → List ℤ → List ℤ → Type 0
  Agree m rest best = (p : List ℤ) → Places block rest p → (k : ℕ) → k < m → number_at block p k ≡ number_at block best k

  pub record Lowering (m : ℕ) (rest best : List ℤ) : Type 0 where
    pub small : Small block rest
    pub below : m < numbers block rest
    pub placed : Places block rest best
    pub agree : Agree m rest best

  -- from the table t and the placement b in it to the rest and the best
  pub record Lowered (m : ℕ) (t b rest best : List ℤ) : Type 0 where
    pub part : Part block t rest
    pub placed : Places block rest best
    pub agree : Agree m rest best
    pub keeps : (p : List ℤ) → Places block t p → Precedes block p best → Places block rest p
    pub sooner : (best ≡ b) ⊎ Precedes block best b

  -- how far number m of the best is above the least that is open in the rest
  unfoldable pub excess : ℕ → List ℤ → List ℤ → ℕ
  excess m rest best = nat (number_at block best m -ℤ number_at block rest m)

  -- lowered once: nothing is left of the excess, or less
  pub record Halved (m : ℕ) (t b rest best : List ℤ) : Type 0 where
    pub lowered : Lowered m t b rest best
    pub less : (excess m rest best ≡ 0) ⊎ (excess m rest best < excess m t b)
