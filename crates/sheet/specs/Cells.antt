-- The cells of a room by number: cell m has the digits of m for coordinates, counted from the room's low corner; the base of place d is
-- the room's width in dimension d. Assumes nothing.
use Rattle.std.specs.Prelude.{List, ℕ, ℤ, pos, ◌+ℤ◌}
use Rattle.integers.specs.Words.{list_below}
use Rattle.integers.specs.Digits.{digit}
use Rattle.sheet.specs.Layout.{dims, room_low}
use Rattle.sheet.specs.Fill.{room_width}

-- cell m of rule r's room, the first dimension counting fastest
unfoldable pub cell_at : List ℤ → ℕ → ℕ → List ℤ
cell_at block r m = list_below (dims block) (λ d. room_low block r d +ℤ pos (digit (room_width block r) m d))
