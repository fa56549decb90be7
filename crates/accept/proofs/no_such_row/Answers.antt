-- `accept::no_such_row` meets its contract: the number of rows is small, so that its cast keeps it. Assumes nothing.
use mathlib.Core.Path.{ap, ap₂, ◌∙◌}
use mathlib.Core.Bool.{not}
use Prim.Native.Nat.{◌^◌, ◌<◌}
use native.Mathlib.Omega.{arith}
use lib.IntN.{pos}
use mir.Facts.{to_z-of_z, to_z_pos}
use mir.Syntax.{w64}
use Rattle.integers.specs.Integer.{within}
use Rattle.sheet.specs.Refusal.{no_such_row}
use Rattle.accept.proofs.no_such_row.Goals as goal

pub returns : goal.returns
unfolding no_such_row
returns c =
    let s = c.before.before in
    let l : c.before.rows_of.result < 2 ^ 63 = omega (arith, c.before.rows_of.ensures, s.requires.1.few_rows) in
    ap not (c.is_within.ensures ∙ ap₂ (within (pos 1)) (to_z_pos w64 l ∙ ap pos c.before.rows_of.ensures) (to_z-of_z s.ranges.row))
