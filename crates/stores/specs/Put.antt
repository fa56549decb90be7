-- Words or bytes put into a run from a place on: the run keeps its length, and what would stand past its end is left out.
-- Assumes nothing.
use Rattle.std.specs.Prelude.{◌≡◌, List, ℕ, ◌+◌, length}
use Rattle.std.proofs.lemmas.List.Edits.{sets}

-- `end` is the place past them, whether the run goes so far or not
pub record Put {A : Type 0} (before : List A) (at : ℕ) (items : List A) (end : ℕ) (after : List A) : Type 0 where
  pub past : end ≡ at + length items
  pub stored : after ≡ sets before at items
