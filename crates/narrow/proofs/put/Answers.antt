-- `put` meets its contract: a comparison of bits is one of words. Assumes nothing.
use mathlib.Core.Path.{sym, ap, ◌∙◌}
use mathlib.Core.Bool.{Bool, not, ◌||◌}
use lib.ListN.{set}
use mir.Syntax.{w64}
use mir.Val.{SFits}
use mir.Facts.{to_z-of_z}
use borrow.Author.Rules.{rules}
use Rattle.integers.specs.Integer.{eq_z}
use Rattle.integers.specs.Words.{word}
use Rattle.integers.proofs.Machine.{eqb-bits}
use Rattle.narrow.proofs.put.Goals as goal

pub returns-else-moved : goal.returns-else-moved
returns-else-moved c =
    let a = c.args in
    let f : SFits w64 (word a.table.now a.at) = search rules in (
      ap (set a.table.now a.at) (to_z-of_z c.ranges.w),
      ap not (eqb-bits f c.ranges.w) ∙ ap (λ (b : Bool). b || not (eq_z (word a.table.now a.at) a.w)) (sym c.if-moved.false),
    )
