-- The rules that count: what any non-overlap rule forbids, one of these forbids. Assumes nothing.
use Rattle.std.specs.Prelude.{◌≡◌, true, List, ℕ, ◌^◌, ◌<◌, ℤ, pos}
use Rattle.integers.specs.Integer.{nat}
use Rattle.integers.specs.Bits.{bit_at, bit}
use Rattle.integers.specs.Words.{word}
use Rattle.sheet.specs.Layout.{dims, rules, is_non_overlap, names_dim, names_row, dim_set, row_set}
use Rattle.sheet.specs.Accepted.{Count}
use Rattle.outline.specs.Places.{rules_at}
use Rattle.outline.specs.Clearance.{Keeps}

module _ (block : List ℤ) where
  -- ---- while the set is made, of sets of rows and dimensions
  -- rule q names each of the rows, no dimension but these, and has no less clearance than rule r
  pub record Covers (r rows dims q : ℕ) : Type 0 where
    pub names : (d : ℕ) → bit_at rows d ≡ 1 → bit_at (nat (row_set block q)) d ≡ 1
    pub dims_of : (d : ℕ) → bit_at (nat (dim_set block q)) d ≡ 1 → bit_at dims d ≡ 1
    pub keeps : Keeps block q r

  -- a rule of the set does
  pub record CoveredBy (set r rows dims : ℕ) : Type 0 where
    pub rule : ℕ
    pub counts : bit (pos set) rule ≡ true
    pub covers : Covers r rows dims rule

  -- of the rules below m each is covered
  pub record CountedTo (m set : ℕ) : Type 0 where
    pub below : set < 2 ^ m
    pub kinds : (q : ℕ) → bit (pos set) q ≡ true → is_non_overlap block q ≡ true
    pub covered : (r : ℕ) → r < m → is_non_overlap block r ≡ true → CoveredBy set r (nat (row_set block r)) (nat (dim_set block r))

  -- ---- in an outline
  -- a rule that counts forbids whatever rule r forbids: it names its rows, no dimension that r does not, and has no less clearance
  pub record Covered (o : List ℤ) (r : ℕ) : Type 0 where
    pub rule : ℕ
    pub below : rule < rules block
    pub counts : bit (word o rules_at) rule ≡ true
    pub kind : is_non_overlap block rule ≡ true
    pub names : (j : ℕ) → names_row block r j ≡ true → names_row block rule j ≡ true
    pub dims_of : (d : ℕ) → d < dims block → names_dim block rule d ≡ true → names_dim block r d ≡ true
    pub keeps : Keeps block rule r

  pub record Rules (o : List ℤ) : Type 0 where
    pub count : Count (word o rules_at)
    pub covered : (r : ℕ) → r < rules block → is_non_overlap block r ≡ true → Covered o r
