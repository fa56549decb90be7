-- `line::read_fields` meets its contract. The invariant: the fields from `p` on, put from place `i` on, give the whole line.
-- Assumes nothing.
use Rattle.std.proofs.Common.{◌≡◌, length}
use Rattle.sheet.specs.Layout.{record_most}
use Rattle.line.specs.Parts.{parts_from, numbers_in}
use Rattle.line.specs.Answers.{line_of}
use Rattle.line.proofs.Fields.{walked}
use Rattle.line.proofs.read_fields.Given as goal

abbrev pub invariant-loop-i : goal.invariant-loop-i
invariant-loop-i l = (walked l.s l.n l.p l.w l.i ≡ line_of (numbers_in l.n (parts_from 44 l.s l.from))) × (length l.w ≡ record_most)
