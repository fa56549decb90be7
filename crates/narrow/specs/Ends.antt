-- The ends that the allowed points of a row's first shapes reach: what the search of one shape after the other keeps.
-- Assumes nothing.
use Rattle.std.specs.Prelude.{◌≡◌, ◌⊎◌, Bool, true, false, cond, List, ℕ, suc, ◌≤◌, ◌<◌, length, ℤ, pos, ◌+ℤ◌, ◌-ℤ◌}
use Rattle.std.specs.Int.Signed.{le_z}
use Rattle.integers.specs.Integer.{minus}
use Rattle.integers.specs.Words.{word}
use Rattle.sheet.specs.Layout.{axes, has_shape}
use Rattle.sheet.specs.Allowed.{allowed}
use Rattle.sheet.specs.Narrow.{Reached}
use Rattle.points.specs.declared.Area.{Area}
use Rattle.points.specs.Area.{reach, area_words, in_area}
use Rattle.points.specs.Ends.{end_at}
use Rattle.region.specs.Rooms.{CutBox}
use Rattle.outline.specs.Outline.{Subject}
use Rattle.nearby.specs.declared.Nearby.{Nearby}
use Rattle.nearby.specs.Listing.{Listed}
use Rattle.bounds.specs.Search.{Ahead}

-- an end that no point has reached: past every point of an accepted sheet, on the side from which the search comes
abbrev pub beyond : ℕ
beyond = 1500000

abbrev pub nowhere : Bool → ℤ
nowhere flip = cond flip (minus beyond) (pos beyond)

-- strictly ahead of z: from `past-from flip z` to `past_to flip z`
abbrev pub past-from : Bool → ℤ → ℤ
past-from true z = z +ℤ pos 1
past-from false z = minus reach

abbrev pub past_to : Bool → ℤ → ℤ
past_to true z = pos reach
past_to false z = z -ℤ pos 1

-- no point of the area lies there in dimension d
abbrev pub none-past : Bool → Area → ℕ → ℤ → Bool
none-past true a d z = le_z (word a.high d) z
none-past false a d z = le_z z (word a.low d)

module _ (block : List ℤ) (t : List ℤ) (i : ℕ) where
  -- row i with one of the shapes 1 to n of its set is allowed at p
  pub record StandsTo (n : ℕ) (p : List ℤ) : Type 0 where
    pub shape : ℕ
    pub upto : shape ≤ n
    pub held : has_shape block t i shape ≡ true
    pub stands : allowed block t i shape p ≡ true

  -- some point of the row reaches z in dimension d, and none of these lies ahead of it: below it, or where flip is set above it
  pub record Edge (flip : Bool) (n d : ℕ) (z : ℤ) : Type 0 where
    pub ahead : (p : List ℤ) → StandsTo n p → Ahead flip z (word p d)
    pub reached : Reached block t i d z

  -- z is such an edge where the row has a point, and `nowhere` while it has none
  abbrev pub End : Bool → ℕ → ℕ → ℤ → Type 0
  End flip n d z = Edge flip n d z ⊎ ((z ≡ nowhere flip) × ((p : List ℤ) → StandsTo n p → ⊥))

  -- the ends are such edges: those of one side in the dimensions below e, and all
  abbrev pub SideTo : Bool → ℕ → ℕ → List ℤ → Type 0
  SideTo flip n e ends = (d : ℕ) → d < e → Edge flip n d (end_at flip d ends)

  abbrev pub Edges : ℕ → List ℤ → Type 0
  Edges n ends = (flip : Bool) (d : ℕ) → d < axes block → Edge flip n d (end_at flip d ends)

  -- the ends of the row's first n shapes, in every dimension
  abbrev pub Ends : ℕ → List ℤ → Type 0
  Ends n ends = (flip : Bool) (d : ℕ) → d < axes block → End flip n d (end_at flip d ends)

  -- what holds of the old ends holds of the new
  abbrev pub Kept : List ℤ → List ℤ → Type 0
  Kept old new = (n : ℕ) (flip : Bool) (d : ℕ) → d < axes block → Edge flip n d (end_at flip d old) → Edge flip n d (end_at flip d new)

-- what the ends of a row are taken on with: the list of shape n + 1, its cut box, and the ends of the shapes up to n
pub record Widening (block t o list known : List ℤ) (x : Nearby) (cut : Area) (n : ℕ) (ends : List ℤ) : Type 0 where
  pub subject : Subject block t o x.i x.s
  pub listed : Listed block t x list known
  pub next : x.s ≡ suc n
  pub held : has_shape block t x.i.number x.s ≡ true
  pub box : CutBox block t x.i.number x.s cut
  pub filled : in_area (axes block) cut cut.low ≡ true
  pub long : length ends ≡ area_words
