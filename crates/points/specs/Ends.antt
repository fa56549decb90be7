-- The ends of an area that is a run of words, and what it is to change them in place. Assumes nothing.
use Rattle.std.specs.Prelude.{◌≡◌, ◌⊎◌, Bool, true, false, cond, List, ℕ, ◌+◌, ◌≤◌, ◌<◌, ℤ, length}
use Rattle.integers.specs.Words.{word}
use Rattle.points.specs.Area.{coordinates, max_z, min_z}

-- an end: the low one, or where flip is set the high one
abbrev pub end_at : Bool → ℕ → List ℤ → ℤ
end_at true d ends = word ends (coordinates + d)
end_at false d ends = word ends d

-- every low end is the one number, and every high end the other
abbrev pub EndsAre : ℤ → ℤ → List ℤ → Type 0
EndsAre low high ends = (flip : Bool) (d : ℕ) → d < coordinates → end_at flip d ends ≡ cond flip high low

-- the end z taken out to y
abbrev pub farther : Bool → ℤ → ℤ → ℤ
farther true z y = max_z z y
farther false z y = min_z z y

-- the ends in the dimensions below m are taken out to point p, the others not yet
pub record Taken (m : ℕ) (old p new : List ℤ) : Type 0 where
  pub moved : (flip : Bool) (d : ℕ) → d < m → end_at flip d new ≡ farther flip (end_at flip d old) (word p d)
  pub kept : (flip : Bool) (d : ℕ) → m ≤ d → d < coordinates → end_at flip d new ≡ end_at flip d old

-- the two runs have the same words but for n of them from `at` on
pub record SameBut (at n : ℕ) (l l' : List ℤ) : Type 0 where
  pub long : length l' ≡ length l
  pub words : (x : ℕ) → (x < at) ⊎ (at + n ≤ x) → word l' x ≡ word l x
