-- `text::read_text` meets its contract: what was parsed is refused by its form, by its length, or by the checks, or accepted. Assumes nothing.
use mathlib.Core.Path.{sym, ◌∙◌}
use mathlib.Core.Logic.{inl, inr}
use Rattle.std.proofs.Common.{rules}
use Rattle.sheet.specs.Refusal.{ground, grounds}
use Rattle.sheet.proofs.Answer.{passed}
use Rattle.text.proofs.Readings.{read_none, read-long, Shown, read-refused, read-accepted}
use Rattle.text.proofs.read_text.Goals.{then-p-gt-TABLE_WORDS, else-p-gt-TABLE_WORDS}
use Rattle.text.proofs.read_text.Goals as goal

pub returns-in_default : goal.returns-in_default
unfolding ground grounds
returns-in_default c = read_none c.args.text.now (sym c.in_default.is ∙ c.parse_text.ensures)

pub returns-then-p-gt-BLOCK_WORDS : goal.returns-then-p-gt-BLOCK_WORDS
unfolding ground grounds
returns-then-p-gt-BLOCK_WORDS c =
    read-long c.args.text.now c.in-Some.p (sym c.in-Some.is ∙ c.parse_text.ensures) c.if-p-gt-BLOCK_WORDS.true

pub returns-in_err-check : goal.returns-in_err-check
returns-in_err-check c =
    let p = c.in-Some.p in
    let e = sym c.in-Some.is ∙ c.parse_text.ensures in
    let shown : Shown c.args.text.now p e c.if-p-gt-BLOCK_WORDS.false c.if-p-gt-TABLE_WORDS.m =
    elim c.if-p-gt-TABLE_WORDS.branch [
      | then-p-gt-TABLE_WORDS w ↦ inl (w.m-is, w.if-p-gt-TABLE_WORDS.true)
      | else-p-gt-TABLE_WORDS w ↦ inr (w.m-is, w.if-p-gt-TABLE_WORDS.false)
    ] in
    read-refused c.args.text.now p e c.if-p-gt-BLOCK_WORDS.false shown c.check.ensures c.in_err-check.was (search rules)

pub returns : goal.returns
returns c =
    let p = c.in-Some.p in
    let e = sym c.in-Some.is ∙ c.parse_text.ensures in
    let shown : Shown c.args.text.now p e c.if-p-gt-BLOCK_WORDS.false c.if-p-gt-TABLE_WORDS.m =
    elim c.if-p-gt-TABLE_WORDS.branch [
      | then-p-gt-TABLE_WORDS w ↦ inl (w.m-is, w.if-p-gt-TABLE_WORDS.true)
      | else-p-gt-TABLE_WORDS w ↦ inr (w.m-is, w.if-p-gt-TABLE_WORDS.false)
    ] in
    read-accepted c.args.text.now p e c.if-p-gt-BLOCK_WORDS.false shown (passed _ _ c.check.ensures c.in_ok-check.was)
