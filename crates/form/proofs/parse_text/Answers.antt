-- `form::parse_text` meets its contract: the length, the first line, its k, and the lines after it. Assumes nothing.
use Rattle.std.proofs.Common.{sym, ap, ◌∙◌, arith, rules, get_or, pos, w64, FitsSigned, Some}
use Rattle.std.proofs.Math.Seq.{length-take-le}
use Rattle.std.proofs.Math.Facts.{to_z-of_z}
use Rattle.line.proofs.Parts.{part-ends}
use Rattle.form.specs.Parsed.{parsed_of}
use Rattle.form.specs.declared.Parsed.{Parsed}
use Rattle.form.proofs.Texts.{k-in, after-out, after-in, text-long, text-open, text-bad, text-good}
use Rattle.form.proofs.parse_text.Goals as goal

pub returns-then-text-gt-TEXT_BYTES : goal.returns-then-text-gt-TEXT_BYTES
unfolding parsed_of
returns-then-text-gt-TEXT_BYTES c = ap parsed_of (sym (text-long _ c.if-text-gt-TEXT_BYTES.true))

pub returns-then-e-text : goal.returns-then-e-text
unfolding parsed_of
returns-then-e-text c = ap parsed_of (sym (text-open _ _ c.if-text-gt-TEXT_BYTES.false c.find-e.ensures c.if-e-text.true))

pub slice_bounds-read_line-end : goal.slice_bounds-read_line-end
slice_bounds-read_line-end c =
    sym (length-take-le _ c.args.text.now (part-ends 10 c.args.text.now {p = 0} (omega arith) c.find-e.ensures))

pub returns-in_err-w : goal.returns-in_err-w
unfolding parsed_of
returns-in_err-w c =
    c.from_residual.ensures
    ∙ ap parsed_of (sym (text-bad _ _ c.if-text-gt-TEXT_BYTES.false c.find-e.ensures (sym c.read_line.ensures ∙ c.in_err-w.was)))

-- in what follows z is the word of the first line
pub returns-in_default : goal.returns-in_default
unfolding parsed_of
returns-in_default c =
    let z = get_or c.in_ok-w.field-0 0 (pos 0) in
    let f : FitsSigned w64 z = search rules in
    let first = text-good _ _ c.if-text-gt-TEXT_BYTES.false c.find-e.ensures c.if-e-text.false (sym c.read_line.ensures ∙ c.in_ok-w.was) in
    let k_is = rw (to_z-of_z f) at c.k_of.ensures in
    ap (λ (p : Parsed). Some p) (rw (to_z-of_z f) at c.headed.ensures) ∙ ap parsed_of (sym (first ∙ after-out z _ (sym k_is ∙ c.in_default.is)))

pub overflow_add-e : goal.overflow_add-e
overflow_add-e c = omega (arith, part-ends 10 c.args.text.now {p = 0} (omega arith) c.find-e.ensures)

pub read_records-requires : goal.read_records-requires
read_records-requires c =
    let z = get_or c.in_ok-w.field-0 0 (pos 0) in
    let f : FitsSigned w64 z = search rules in
    let k_is = rw (to_z-of_z f) at c.k_of.ensures in
    record {
      after_first = omega arith;
      inside = omega (arith, part-ends 10 c.args.text.now {p = 0} (omega arith) c.find-e.ensures);
      text_short = c.if-text-gt-TEXT_BYTES.false;
      k_in = k-in z (sym k_is ∙ c.in-Some.is);
    }

pub returns : goal.returns
returns c =
    let z = get_or c.in_ok-w.field-0 0 (pos 0) in
    let f : FitsSigned w64 z = search rules in
    let first = text-good _ _ c.if-text-gt-TEXT_BYTES.false c.find-e.ensures c.if-e-text.false (sym c.read_line.ensures ∙ c.in_ok-w.was) in
    let k_is = rw (to_z-of_z f) at c.k_of.ensures in
    c.read_records.ensures ∙ ap parsed_of (sym (first ∙ after-in z _ (sym k_is ∙ c.in-Some.is)))
