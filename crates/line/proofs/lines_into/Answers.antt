-- `line::lines_into` meets its contract. The invariant: the lines read so far and those from `p` on are the lines from `at` on.
-- Assumes nothing.
use Rattle.std.proofs.Common.{sym, ◌∙◌}
use Rattle.line.proofs.Parts.{part-ends}
use Rattle.line.proofs.Lines.{walk_first, walk_end, walk-stop, walk_more}
use Rattle.line.proofs.lines_into.Goals as goal

pub loop-p-init : goal.loop-p-init
loop-p-init c = walk_first _ _ _ _ _ _ c.requires

pub slice_bounds-read_line-end : goal.slice_bounds-read_line-end
slice_bounds-read_line-end c = part-ends 10 c.args.s.now c.loop-p-test.true c.find-e.ensures

pub loop-p-preserved : goal.loop-p-preserved
loop-p-preserved c =
    walk_more _ _ _ _ _ _ c.loop-p.invariant _ c.loop-p-test.true c.find-e.ensures (sym c.read_line.ensures ∙ c.in-Some.is)
    c.requires.line_short c.put_all-t.ensures

pub returns-after-loop-p : goal.returns-after-loop-p
returns-after-loop-p c = walk_end _ _ _ _ _ _ c.loop-p.invariant c.loop-p-test.false

pub returns-in_default : goal.returns-in_default
returns-in_default c =
    walk-stop _ _ _ _ _ _ c.loop-p.invariant _ c.loop-p-test.true c.find-e.ensures (sym c.read_line.ensures ∙ c.in_default.is)
