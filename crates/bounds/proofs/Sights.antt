-- What a search came to, as the extreme coordinate of the free points: that of a foremost one (`foremost-there`), or none. Assumes nothing.
use mathlib.Core.Path.{refl}
use mathlib.Core.Bool.{Bool}
use mathlib.Core.List.{List}
use mathlib.Core.Option.{some}
use Prim.Native.Nat.{ℕ}
use lib.IntN.{ℤ}
use Rattle.integers.specs.Words.{word}
use Rattle.sheet.specs.Bounds.{Extreme, there}
use Rattle.points.specs.declared.Area.{Area}
use Rattle.bounds.specs.Search.{Ahead, free_in, Foremost}

pub foremost-there : {flip : Bool} {block : List ℤ} {t : List ℤ} {i s : ℕ} {a : Area} {d : ℕ} {p : List ℤ} → Foremost flip block t i s a d p
    → Extreme (Ahead flip) (free_in block t i s a) d (some (word p d))
foremost-there {p = p} x = there p x.free refl x.first
