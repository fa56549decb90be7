-- Texts with what reading finds for them, as specs/TextPositions.antt has them: every case is as it says (`texts-pass`); and what the program
-- prints for the sheet of document 01, for one with no layout, and for a refused one. Assumes nothing.
use Rattle.std.specs.Prelude.{◌≡◌, refl, T}
use Rattle.sheet.specs.Computing.{computing}
use Rattle.sheet.specs.Text.{ascii, printed}
use Rattle.sheet.specs.TextPositions.{all_refused, texts, example, too_small}

pub texts-pass : T (all_refused texts)
unfolding computing all_refused texts
texts-pass = tt

pub example-printed : printed example ≡ ascii "SETTLED,2\n1,1,0,0,0,0\n2,1,2,2,0,0\n"
unfolding computing example
example-printed = refl

pub no-layout-printed : printed too_small ≡ ascii "NO LAYOUT\n"
unfolding computing too_small
no-layout-printed = refl

pub refusal-printed : printed (ascii "K,5\n") ≡ ascii "REFUSED,2\n"
unfolding computing
refusal-printed = refl
