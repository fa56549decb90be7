-- Of the first shapes of a row those that have a point, and the ends that their points reach. Assumes nothing.
use Rattle.std.specs.Prelude.{◌≡◌, List, ℕ, ◌<◌, length, ℤ}
use Rattle.integers.specs.Bits.{set_of}
use Rattle.sheet.specs.Narrow.{keeps_shape}
use Rattle.words.specs.declared.Place.{Place}
use Rattle.points.specs.Area.{area_words}
use Rattle.outline.specs.Outline.{OnRow}
use Rattle.narrow.specs.Ends.{Ends}

pub record KeptTo (block : List ℤ) (t : List ℤ) (i n shapes : ℕ) (ends : List ℤ) : Type 0 where
  pub kept : shapes ≡ set_of n (keeps_shape block t i)
  pub ends_of : Ends block t i n ends

-- the ends of the row's first n shapes, to which shape n + 1 is taken
pub record Keeping (block t o : List ℤ) (i : Place) (n : ℕ) (ends : List ℤ) : Type 0 where
  pub on : OnRow block t o i
  pub below : n < 32
  pub long : length ends ≡ area_words
  pub ends_of : Ends block t i.number n ends
