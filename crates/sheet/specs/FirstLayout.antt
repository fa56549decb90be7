-- Document 02, T-06: the first whole layout. Placements inside a table and their order; what must be found, as a statement about any finding;
-- and a definition that tries the placements one after the other. That the definition finds what the statement asks, and nothing else does, is
-- proofs/FirstLayout.antt. A finding is an option: none is 'none', and the table is unchanged; some p is the placement that is written over
-- it. Assumes nothing.
use Rattle.std.specs.Prelude.{◌≡◌, true, cond, List, ℕ, zero, suc, ◌*◌, ◌/◌, ◌%◌, ◌<◌, ℤ, pos, ◌+ℤ◌, ◌<ℤ◌}
use Rattle.std.proofs.Math.Option.{Option, none, some}
use Rattle.integers.specs.Integer.{width}
use Rattle.integers.specs.Below.{first_some}
use Rattle.sheet.specs.Layout.{axes, rows, low, high}
use Rattle.sheet.specs.Placement.{fixed, good}
use Rattle.sheet.specs.Settle.{Inside}
use Rattle.sheet.specs.Cuts.{is_open, number, cut_to}

module _ (block : List ℤ) where
  -- p is a good placement inside the table
  pub record Places (table p : List ℤ) : Type 0 where
    pub inside : Inside block p table
    pub is_fixed : fixed block p ≡ true
    pub is_good : good block p ≡ true

  -- ---- the order

  -- how many numbers a row has: its shape's, and a coordinate for each dimension
  unfoldable pub per_row : ℕ
  per_row = suc (axes block)

  unfoldable pub numbers : List ℤ → ℕ
  numbers table = rows block table * per_row

  -- number m, from 0, in the order of the request: row 1's shape number, its coordinates from dimension 0 up, row 2's, and so on
  unfoldable pub number_at : List ℤ → ℕ → ℤ
  number_at p m = number block p (suc (m / per_row)) (m % per_row)

  -- the first number in which p and q differ is less in p
  pub record Precedes (p q : List ℤ) : Type 0 where
    pub at : ℕ
    pub below : at < numbers p
    pub same : (m : ℕ) → m < at → number_at p m ≡ number_at q m
    pub less : number_at p at <ℤ number_at q at

  -- ---- what must be found

  -- none: no good placement lies inside the table; some p: p is one, and none that lies inside precedes it
  pub data FirstLayout (table : List ℤ) : Option (List ℤ) → Type 0 where
    nothing : ((p : List ℤ) → Places table p → ⊥) → FirstLayout table none
    first : {p : List ℤ} → Places table p → ((q : List ℤ) → Places table q → Precedes q p → ⊥) → FirstLayout table (some p)

  -- ---- and how it is computed

  -- how many values from the least on are tried for number c of row i: 32 shapes, or the range
  unfoldable pub tries : List ℤ → ℕ → ℕ → ℕ
  tries table i zero = 32
  tries table i (suc d) = width (low block table i d) (high block table i d)

  -- every number before number m is chosen, and `left` of them are not: each value that is open for number m is chosen in turn
  unfoldable pub first_from : ℕ → ℕ → List ℤ → Option (List ℤ)
  first_from zero m table = cond (good block table) (some table) none
  first_from (suc left) m table =
      let i = suc (m / per_row) in
      let c = m % per_row in
      first_some (tries table i c) (λ v.
      let z = number block table i c +ℤ pos v in
      let more = first_from left (suc m) (cut_to block table i c z z) in
      cond (is_open block table i c z) more none)

  unfoldable pub first_layout_of : List ℤ → Option (List ℤ)
  first_layout_of table = first_from (numbers table) 0 table

-- one name that opens every definition above: `unfolding laying`
unfoldable pub laying : Unit {0}
unfolding per_row numbers number_at tries first_from first_layout_of
laying = tt
