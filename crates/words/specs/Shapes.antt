-- The lowest shape of a row's set. Assumes nothing.
use Rattle.std.specs.Prelude.{◌≡◌, true, List, ℕ, ◌≤◌, ℤ}
use Rattle.sheet.specs.Layout.{has_shape}

pub record LowestShape (block t : List ℤ) (i s : ℕ) : Type 0 where
  pub held : has_shape block t i s ≡ true
  pub least : (x : ℕ) → has_shape block t i x ≡ true → s ≤ x
  pub upto : s ≤ 32
