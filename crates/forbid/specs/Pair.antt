-- One solid of a row against one solid of another: what the code for a pair requires and promises. Assumes nothing.
use Rattle.std.specs.Prelude.{IfSome, IfNone, Option, ◌≡◌, Bool, true, List, ℕ, ◌<◌, ℤ}
use Rattle.integers.specs.Integer.{within, Within}
use Rattle.integers.specs.Below.{◌⇒◌, all_below}
use Rattle.integers.specs.Words.{word}
use Rattle.sheet.specs.Layout.{dims, axes, low, high, clearance, names_dim}
use Rattle.sheet.specs.Allowed.{in_ranges}
use Rattle.sheet.specs.Accepted.{Block, Table}
use Rattle.words.specs.Places.{RulePlace, RowPlace}
use Rattle.points.specs.declared.Area.{Area}
use Rattle.points.specs.Area.{reach, Cuts, field_area}
use Rattle.outline.specs.declared.solid.Extent.{Extent}
use Rattle.outline.specs.Places.{solids, start_of, end_of}
use Rattle.outline.specs.Solids.{Modest}
use Rattle.forbid.specs.declared.pair.Pair.{Pair}
use Rattle.forbid.specs.declared.interval.Interval.{Interval}
use Rattle.forbid.specs.Interval.{forbid_first, forbid_last}

-- solid x in dimension d
abbrev pub extent_of : List ℤ → ℕ → ℕ → Extent
extent_of o x d = record { start = start_of o x d; end = end_of o x d }

module _ (block t o : List ℤ) (x : Pair) where
  -- the pair's records stand where it says, in an accepted sheet, and the solids' bounds are near
  pub record PairPlaces : Type 0 where
    pub accepted : Block block
    pub table : Table block t
    pub rule : RulePlace block x.r
    pub other_row : RowPlace block t x.j
    pub own_few : x.own < solids
    pub own : Modest block o x.own
    pub other_few : x.other < solids
    pub other : Modest block o x.other

  -- the pair's interval in dimension d, and the points that it forbids
  abbrev pub from_of : ℕ → ℤ
  from_of d = forbid_first (extent_of o x.own d) (extent_of o x.other d) (high block t x.j.number d) (clearance block x.r.number d)

  abbrev pub to_of : ℕ → ℤ
  to_of d = forbid_last (extent_of o x.own d) (extent_of o x.other d) (low block t x.j.number d) (clearance block x.r.number d)

  unfoldable pub side_forbids : ℕ → ℤ → Bool
  side_forbids d z = names_dim block x.r.number d ⇒ within (from_of d) (to_of d) z

  unfoldable pub solids_forbid : List ℤ → Bool
  solids_forbid p = all_below (dims block) (λ d. side_forbids d (word p d))

  -- y is the area of the points that the pair forbids, or there is none and it forbids none of row i's ranges
  pub record Meets (i : ℕ) (y : Option Area) : Type 0 where
    pub clear : IfNone y ((p : List ℤ) → in_ranges block t i p ≡ true → solids_forbid p ≡ true → ⊥)
    pub area : IfSome y (λ a. Cuts (axes block) field_area a solids_forbid)

  pub record IsInterval (d : ℕ) (y : Interval) : Type 0 where
    pub from : y.from ≡ from_of d
    pub to : y.to ≡ to_of d
    pub from_within : Within reach y.from
    pub to_within : Within reach y.to
