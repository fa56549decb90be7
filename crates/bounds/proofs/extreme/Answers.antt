-- `bounds::extreme` meets its contract: the free points of the cut box are the allowed ones. Assumes nothing.
use mathlib.Core.Path.{sym, ap, ◌∙◌}
use mathlib.Core.Option.{none, some}
use lib.IntN.{ℤ}
use mir.Syntax.{w64}
use mir.Val.{SFits}
use mir.Facts.{to_z-of_z}
use borrow.Author.Rules.{rules}
use Rattle.std.specs.Prelude.{Some}
use Rattle.integers.specs.Words.{word}
use Rattle.sheet.specs.Bounds.{nowhere}
use Rattle.sheet.specs.Answer.{as_option}
use Rattle.bounds.proofs.Sights.{foremost-there}
use Rattle.bounds.proofs.Cutting.{cut-extreme, cut-empty}
use Rattle.bounds.proofs.extreme.Goals as goal

pub returns-then-not-holds : goal.returns-then-not-holds
unfolding as_option
returns-then-not-holds g c =
    ap as_option (cut-empty c.args.block.now c.args.table.now c.args.i.number c.args.s c.cut_box-cut.result c.cut_box-cut.ensures
    c.args.flip c.args.d c.requires.of.1 (rw c.axes_of.ensures at (sym c.holds.ensures ∙ c.if-not-holds.true)))

pub returns-in_err-p : goal.returns-in_err-p
unfolding as_option
returns-in_err-p g c =
    let none-free = rw (c.gather-nearby.ensures.1, c.gather-nearby.ensures.2) at c.in_err-p.ensures.0 in
    c.from_residual.ensures
    ∙ ap as_option (cut-extreme c.args.block.now c.args.table.now c.args.i.number c.args.s c.cut_box-cut.result c.cut_box-cut.ensures
    c.args.flip c.args.d c.requires.of.1 none (nowhere none-free))

pub returns : goal.returns
unfolding as_option
returns g c =
    let z = word c.in_ok-p.p c.args.d in
    let fits : SFits w64 z = search rules in
    let foremost = rw (c.gather-nearby.ensures.1, c.gather-nearby.ensures.2) at c.in_ok-p.ensures.0 in
    ap (λ (y : ℤ). Some y) (to_z-of_z fits)
    ∙ ap as_option (cut-extreme c.args.block.now c.args.table.now c.args.i.number c.args.s c.cut_box-cut.result c.cut_box-cut.ensures
    c.args.flip c.args.d c.requires.of.1 (some z) (foremost-there foremost))
