-- `line::read_line` meets its contract: the first field ends before the first comma. Assumes nothing.
use Rattle.std.proofs.Common.{sym, ap, ◌∙◌, arith}
use Rattle.line.specs.Answers.{line_of}
use Rattle.line.proofs.Parts.{part-ends}
use Rattle.line.proofs.Fields.{line-long, line_other, line-good}
use Rattle.line.proofs.read_line.Goals as goal
use Rattle.line.proofs.read_line.Goals.{then-find-ne1-via-then-find-ne1, then-find-ne1-via-else-find-ne1+then-s-letter}

pub bounds-s-0 : goal.bounds-s-0
bounds-s-0 c = omega (arith, part-ends 44 c.args.s.now {p = 0} (omega arith) c.find.ensures, c.if-find-ne1.false)

pub returns-then-find-ne1 : goal.returns-then-find-ne1
unfolding line_of
returns-then-find-ne1 c =
    elim c.then-find-ne1.branch [
      | then-find-ne1-via-then-find-ne1 w ↦ ap line_of (sym (line-long _ _ _ _ c.find.ensures w.if-find-ne1.true))
      | then-find-ne1-via-else-find-ne1+then-s-letter w ↦
          ap line_of (sym (line_other _ _ _ _ c.find.ensures w.if-find-ne1.false w.if-s-letter.true))
    ]

pub returns : goal.returns
returns c = c.read_fields.ensures ∙ ap line_of (sym (line-good _ _ _ _ c.find.ensures c.if-find-ne1.false c.if-s-letter.false))
