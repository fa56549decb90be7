-- `words::word_in` meets its contract: the word is tested as it was read. Assumes nothing.
use mathlib.Core.Path.{◌∙◌}
use mir.Facts.{to_z-of_z}
use Rattle.integers.specs.Words.{word}
use Rattle.integers.proofs.Machine.{fits_word}
use Rattle.words.proofs.word_in.Goals as goal

pub returns : goal.returns
returns c =
    let s = c.before.before in
    let f = fits_word (word s.args.words.now s.args.at) c.before.is_within-arg-1.given in
    c.is_within.ensures ∙ rw (to_z-of_z f, to_z-of_z s.ranges.lo, to_z-of_z s.ranges.hi)
