-- What the sweep's operations give, over the words of a point: document 000, Algorithms 10 and 12.
-- Assumes nothing.
use Rattle.std.specs.Prelude.{true, false, cond, List, ℕ, zero, suc, set, ℤ}
use Rattle.std.specs.Int.Signed.{le_z}
use Rattle.integers.specs.Words.{word}
use Rattle.sweep.specs.Point.{next, nexts, lessers}
use Rattle.sweep.specs.declared.Sweep.{Sweep}

-- the start: the candidate is the lowest point, the jump point one past the highest
abbrev pub begun : List ℤ → List ℤ → Sweep
begun low high = record { candidate = low; jump = nexts high; live = true }

-- a jump: the jump point is no further than one past the last point of a forbidden region
unfoldable pub jumped_past : Sweep → List ℤ → Sweep
jumped_past s last = record { candidate = s.candidate; jump = lessers s.jump (nexts last); live = s.live }

-- the candidate's word in dimension i is z, and the jump point's is one past the range's end there
unfoldable pub placed_at : ℕ → ℤ → ℤ → Sweep → Sweep
placed_at i z end s = record { candidate = set s.candidate i z; jump = set s.jump i (next end); live = s.live }

-- AdjustUp from position j − 1 down: the jump point's word is the candidate's where it lies in the range, and the
-- candidate is found; else the position starts again at the range's low end
unfoldable pub advance : (ℕ → ℕ) → List ℤ → List ℤ → ℕ → Sweep → Sweep
advance order low high zero s = record { candidate = s.candidate; jump = s.jump; live = false }
advance order low high (suc j) s =
    let i = order j in
    let up = word s.jump i in
    let end = word high i in
    let again = advance order low high j (placed_at i (word low i) end s) in
    cond (le_z up end) (placed_at i up end s) again
