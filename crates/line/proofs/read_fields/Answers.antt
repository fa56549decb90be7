-- `line::read_fields` meets its contract. The invariant: the fields from `p` on, put from place `i` on, give the whole line.
-- Assumes nothing.
use Rattle.std.proofs.Common.{sym, refl, ◌∙◌, rules, w64, FitsSigned}
use Rattle.std.proofs.Math.Facts.{to_z-of_z}
use Rattle.line.specs.Answers.{zeros}
use Rattle.line.proofs.Parts.{part-ends}
use Rattle.line.proofs.Numbers.{number-found, number-missing}
use Rattle.line.proofs.Fields.{walked-first, fields-few, fields-end, fields-over, fields-bad, fields-more}
use Rattle.line.proofs.read_fields.Goals as goal

pub loop-i-init : goal.loop-i-init
unfolding zeros
loop-i-init c = (walked-first _ _ _, refl)

pub returns-then-p-s : goal.returns-then-p-s
returns-then-p-s c = fields-few _ _ _ c.loop-i.w _ c.loop-i-test.true c.if-p-s.true ∙ c.loop-i.invariant.0

pub slice_bounds-read_number-end : goal.slice_bounds-read_number-end
slice_bounds-read_number-end c = part-ends 44 c.args.s.now c.if-p-s.false c.find-e.ensures

pub returns-in_err-v : goal.returns-in_err-v
returns-in_err-v c =
    let missing = number-missing _ (sym c.read_number.ensures ∙ c.in_err-v.was) in
    c.from_residual.ensures
    ∙ fields-bad _ _ _ c.loop-i.w _ _ c.if-p-s.false c.find-e.ensures c.loop-i-test.true missing
    ∙ c.loop-i.invariant.0

pub loop-i-preserved : goal.loop-i-preserved
loop-i-preserved c =
    let found = number-found _ (sym c.read_number.ensures ∙ c.in_ok-v.was) in
    let more = fields-more _ _ _ c.loop-i.w _ _ c.if-p-s.false c.find-e.ensures c.loop-i-test.true _ found in
    let fits : FitsSigned w64 c.in_ok-v.v = search rules in
    let put = rw (to_z-of_z fits) at c.put.ensures in
    (rw put (more ∙ c.loop-i.invariant.0), c.put.auto.out ∙ c.loop-i.invariant.1)

pub returns-then-p-s-2 : goal.returns-then-p-s-2
returns-then-p-s-2 c = fields-over _ _ _ c.loop-i.w _ _ c.if-p-s-2.true refl c.loop-i-test.false ∙ c.loop-i.invariant.0

pub returns : goal.returns
returns c = fields-end _ _ _ c.loop-i.w _ c.loop-i-test.false c.if-p-s-2.false ∙ c.loop-i.invariant.0
