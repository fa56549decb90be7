-- `Area::within` meets its contract: in dimension d the low bound becomes the larger and the high bound the lesser of two. Assumes nothing.
use mathlib.Core.Path.{◌≡◌}
use native.Mathlib.Omega.{arith}
use lib.ListN.{length}
use mir.Syntax.{w64}
use mir.Val.{to_z, of_z}
use mir.Facts.{to_z-of_z}
use borrow.Author.Rules.{rules}
use Rattle.integers.specs.Words.{word}
use Rattle.points.specs.Area.{coordinates, max_z, min_z}
use Rattle.points.proofs.Sums.{max_is, min_is}
use Rattle.points.proofs.Cut.{cuts-one}
use Rattle.points.proofs.Area.within.Goals as goal

pub returns : goal.returns
returns c k h =
    let a = c.args in
    let hl : length a.self.low ≡ coordinates = search rules in
    let hh : length a.self.high ≡ coordinates = search rules in
    let el : to_z w64 (of_z w64 c.max.result) ≡ max_z (word a.self.low a.d) a.low = grind (arith, to_z-of_z, max_is) in
    let eh : to_z w64 (of_z w64 c.min.result) ≡ min_z (word a.self.high a.d) a.high = grind (arith, to_z-of_z, min_is) in
    cuts-one a.self a.d a.low a.high (omega arith) (omega arith) el eh c.requires.low_near c.requires.high_near h
