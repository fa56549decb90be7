-- Clearances of two rules: what it is that one keeps boxes at least as far apart as the other does. Assumes nothing.
use Rattle.std.specs.Prelude.{◌≡◌, true, List, ℕ, ◌<◌, ℤ, ◌≤ℤ◌}
use Rattle.sheet.specs.Layout.{dims, clearance, names_dim}
use Rattle.sheet.specs.Accepted.{Block}
use Rattle.words.specs.declared.Place.{Place}
use Rattle.words.specs.Places.{RulePlace}

module _ (block : List ℤ) where
  -- two rules of an accepted sheet
  pub record RulePair (q r : Place) : Type 0 where
    pub accepted : Block block
    pub first : RulePlace block q
    pub second : RulePlace block r

  -- rule q has no less clearance than rule r in dimension d, if it names d; and in every dimension
  abbrev pub KeepsIn : ℕ → ℕ → ℕ → Type 0
  KeepsIn q r d = names_dim block q d ≡ true → clearance block r d ≤ℤ clearance block q d

  abbrev pub Keeps : ℕ → ℕ → Type 0
  Keeps q r = (d : ℕ) → d < dims block → KeepsIn q r d
