-- The list of what can forbid a row with a shape the points of its ranges. Two statements carry it: every point of a known area is forbidden;
-- and a point that is forbidden lies in a known area, or in the area of a suspect that forbids it. Assumes nothing.
use Rattle.std.specs.Prelude.{IfSome, suc, ◌≡◌, Bool, true, false, ◌&&◌, List, ℕ, ◌≤◌, ◌<◌, eqb, ℤ, length}
use Rattle.std.specs.Option.{option_eq}
use Rattle.std.specs.declared.option.Option.TheVariants.{Some}
use Rattle.integers.specs.Words.{word}
use Rattle.sheet.specs.Layout.{axes, rules, rows}
use Rattle.sheet.specs.Allowed.{in_ranges, set_forbids, forbidden}
use Rattle.sheet.specs.Accepted.{Count}
use Rattle.words.specs.Places.{RowPlace}
use Rattle.points.specs.Area.{in_area, Small}
use Rattle.forbid.specs.Region.{AtPoint}
use Rattle.nearby.specs.declared.Nearby.{Nearby}
use Rattle.nearby.specs.Places.{suspect_at, suspect_row, rule_of, row_of, suspect_area, known_count, known_area}
use Rattle.nearby.specs.Known.{Counted, known_holds}

module _ (block t : List ℤ) (i s : ℕ) where
  -- row i with shape s is forbidden every point of the known areas
  pub record Known (known : List ℤ) : Type 0 where
    pub counted : Counted known
    pub small : (e : ℕ) → e < known_count known → Small (known_area known e)
    pub forbids : (e : ℕ) → e < known_count known → (q : List ℤ) → in_area (axes block) (known_area known e) q ≡ true
        → forbidden block t i s q ≡ true

  module _ (list : List ℤ) where
    -- suspect e names a rule and a row, and what they forbid is forbidden
    pub record Suspect (e : ℕ) : Type 0 where
      pub rule_count : Count (word list (suspect_at e))
      pub row_count : Count (word list (suspect_row e))
      pub rule : rule_of list e < rules block
      pub from : 1 ≤ row_of list e
      pub upto : row_of list e ≤ rows block t
      pub sound : (q : List ℤ) → set_forbids block t (rule_of list e) q i s (row_of list e) ≡ true → forbidden block t i s q ≡ true

    -- suspect e forbids q at p: its area holds p, and its rule and its row forbid q
    unfoldable pub suspect_forbids : List ℤ → ℕ → List ℤ → Bool
    suspect_forbids p e q = in_area (axes block) (suspect_area list e) p && set_forbids block t (rule_of list e) q i s (row_of list e)

    -- suspect e stands in the list
    pub record SuspectAt (e : ℕ) : Type 0 where
      pub fits : suspect_at (suc e) ≤ length list
      pub suspect : Suspect e

    -- one of the first n suspects forbids p, and its area holds p
    pub record Met (n : ℕ) (p : List ℤ) : Type 0 where
      pub suspect : ℕ
      pub below : suspect < n
      pub holds : in_area (axes block) (suspect_area list suspect) p ≡ true
      pub forbids : set_forbids block t (rule_of list suspect) p i s (row_of list suspect) ≡ true

    -- n suspects stand in the list
    pub record Suspects (n : ℕ) : Type 0 where
      pub fits : suspect_at n ≤ length list
      pub each : (e : ℕ) → e < n → Suspect e

module _ (block t : List ℤ) (x : Nearby) (list : List ℤ) where
  -- one of n suspects has met p if it is forbidden
  abbrev pub Meets : ℕ → List ℤ → Type 0
  Meets n p = forbidden block t x.i.number x.s p ≡ true → Met block t x.i.number x.s list n p

  -- so, where the list is whole, with every point of the row's ranges that no known area holds
  pub record Listed (known : List ℤ) : Type 0 where
    pub areas : Known block t x.i.number x.s known
    pub suspects : IfSome x.count (Suspects block t x.i.number x.s list)
    pub meets : IfSome x.count (λ n. (p : List ℤ) → in_ranges block t x.i.number p ≡ true → known_holds block known p ≡ false → Meets n p)

-- the list is whole, and neither a suspect nor a known area stands in it
unfoldable pub lists_nothing : Nearby → List ℤ → Bool
lists_nothing x known = option_eq eqb x.count (Some 0) && eqb (known_count known) 0

-- a point of the row's ranges at which the list is asked
pub record Sought (block t o : List ℤ) (x : Nearby) (list known p : List ℤ) : Type 0 where
  pub at_point : AtPoint block t o x.s p
  pub row : RowPlace block t x.i
  pub inside : in_ranges block t x.i.number p ≡ true
  pub listed : Listed block t x list known

-- a point at which the suspects are asked, since no known area holds it
pub record Suspected (block t o : List ℤ) (x : Nearby) (list p : List ℤ) : Type 0 where
  pub at_point : AtPoint block t o x.s p
  pub row : RowPlace block t x.i
  pub suspects : IfSome x.count (Suspects block t x.i.number x.s list)
  pub meets : IfSome x.count (λ n. Meets block t x list n p)
