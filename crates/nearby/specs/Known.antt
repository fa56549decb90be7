-- Known areas as the code keeps them, whatever they are known for. Assumes nothing.
use Rattle.std.specs.Prelude.{Option, IfSome, IfNone, ◌≡◌, Bool, true, false, List, ℕ, suc, ◌≤◌, ◌<◌, ℤ}
use Rattle.integers.specs.Below.{any_below}
use Rattle.integers.specs.Words.{word}
use Rattle.sheet.specs.Layout.{axes}
use Rattle.sheet.specs.Accepted.{Count}
use Rattle.points.specs.declared.Area.{Area}
use Rattle.points.specs.Area.{in_area}
use Rattle.nearby.specs.Places.{known_most, known_count, known_area}

-- the first word says how many areas follow
pub record Counted (known : List ℤ) : Type 0 where
  pub count : Count (word known 0)
  pub few : known_count known ≤ known_most

-- one more area, or where there is no room the same words
pub record Remembered (known : List ℤ) (area : Area) (had-room : Bool) (known' : List ℤ) : Type 0 where
  pub counted : Counted known'
  pub same : had-room ≡ false → known' ≡ known
  pub count : had-room ≡ true → known_count known' ≡ suc (known_count known)
  pub kept : had-room ≡ true → (e : ℕ) → e < known_count known → known_area known' e ≡ known_area known e
  pub new : had-room ≡ true → known_area known' (known_count known) ≡ area

module _ (block known p : List ℤ) where
  -- one of the areas holds p
  unfoldable pub known_holds : Bool
  known_holds = any_below (known_count known) (λ e. in_area (axes block) (known_area known e) p)

  -- the area is one of them, and holds p
  pub record KnownAt (a : Area) : Type 0 where
    pub entry : ℕ
    pub below : entry < known_count known
    pub is : a ≡ known_area known entry
    pub holds : in_area (axes block) a p ≡ true

  -- such an area, or none holds p
  pub record KnownRegion (x : Option Area) : Type 0 where
    pub met : IfSome x KnownAt
    pub missed : IfNone x (known_holds ≡ false)
