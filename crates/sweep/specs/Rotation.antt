-- Document 01, "the others in rotation (j + d) mod k": the order in which the sweep of dimension d takes the dimensions.
-- Assumes nothing.
use Rattle.std.specs.Prelude.{cond, ◌&&◌, ℕ, ◌+◌, ◌%◌, leb, ltb}
use Rattle.points.specs.Area.{coordinates}

-- the dimension at position j of the sweep of dimension d, for k from 1 to the most coordinates of a point and d and j below k; 0 elsewhere
unfoldable pub rotation : ℕ → ℕ → ℕ → ℕ
rotation k d j = cond (leb k coordinates && ltb d k && ltb j k) ((j + d) % k) 0
