-- What a search of an area finds: a point with the least, or where flip is set the greatest, coordinate of those that no rule forbids.
-- Assumes nothing.
use Rattle.std.specs.Prelude.{◌≡◌, Bool, true, false, not, ◌&&◌, List, ℕ, ◌<◌, ℤ, ◌≤ℤ◌, Option, MatchOption}
use Rattle.std.proofs.Math.Option as Math
use Rattle.sheet.specs.Layout.{axes}
use Rattle.sheet.specs.Allowed.{in_ranges, forbidden}
use Rattle.sheet.specs.Bounds.{least_of, greatest_of}
use Rattle.points.specs.declared.Area.{Area}
use Rattle.points.specs.Area.{in_area, Small}
use Rattle.outline.specs.Outline.{Subject}
use Rattle.nearby.specs.declared.Nearby.{Nearby}
use Rattle.nearby.specs.Listing.{Listed}
use Rattle.integers.specs.Words.{word}

-- a comes before b
abbrev pub Ahead : Bool → ℤ → ℤ → Type 0
Ahead true a b = b ≤ℤ a
Ahead false a b = a ≤ℤ b

-- p lies in the area, and no rule forbids it to row i with shape s
unfoldable pub free_in : List ℤ → List ℤ → ℕ → ℕ → Area → List ℤ → Bool
free_in block t i s a p = in_area (axes block) a p && not (forbidden block t i s p)

-- p is a free point of the area, at or ahead of every other in dimension d
pub record Foremost (flip : Bool) (block : List ℤ) (t : List ℤ) (i s : ℕ) (a : Area) (d : ℕ) (p : List ℤ) : Type 0 where
  pub free : free_in block t i s a p ≡ true
  pub first : (q : List ℤ) → free_in block t i s a q ≡ true → Ahead flip (word p d) (word q d)

-- what a search came to: such a point; or none is free
abbrev pub Sighted : Bool → List ℤ → List ℤ → ℕ → ℕ → Area → ℕ → Option (List ℤ) → Type 0
Sighted flip block t i s a d x = MatchOption x ((p : List ℤ) → free_in block t i s a p ≡ true → ⊥) (Foremost flip block t i s a d)

-- what a search leans on: its list, and an area of the row's ranges that has a point
pub record Searching (block t o list known : List ℤ) (x : Nearby) (d : ℕ) (a : Area) : Type 0 where
  pub subject : Subject block t o x.i x.s
  pub listed : Listed block t x list known
  pub below : d < axes block
  pub small : Small a
  pub filled : in_area (axes block) a a.low ≡ true
  pub inside : (p : List ℤ) → in_area (axes block) a p ≡ true → in_ranges block t x.i.number p ≡ true

-- the least coordinate at which row i is allowed with shape s, or the greatest
unfoldable pub extreme_of : Bool → List ℤ → List ℤ → ℕ → ℕ → ℕ → Math.Option ℤ
extreme_of true block t i s d = greatest_of block t i s d
extreme_of false block t i s d = least_of block t i s d
