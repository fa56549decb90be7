-- `mirrored` makes the mirror image of a point.
-- Assumes nothing.
use mathlib.Core.Path.{◌∙◌}
use lib.IntN.{neg_ℤ, +ℤ_idl}
use Rattle.std.proofs.Common.{rules, arith}
use Rattle.integers.specs.Words.{word}
use Rattle.integers.proofs.Machine.{bnd, num, ◌-ʷ◌, diff-fits, exact}
use Rattle.sweep.specs.Point.{mirror}
use Rattle.sweep.proofs.Maps.{serves-words, mapped}
use Rattle.sweep.proofs.mirrored.Goals as goal

pub map-requires : goal.map-requires
map-requires c = (omega arith, (omega arith, (omega arith, serves-words (λ i q κs r g e f. diff-fits (num 0) (bnd (c.requires.near i)) tt))))

pub returns : goal.returns
unfolding mirror
returns c =
    mapped neg_ℤ c.map.ensures.items (search rules)
    (λ i y a b k. let v = exact (num 0 -ʷ bnd (c.requires.near i)) tt ∙ +ℤ_idl (neg_ℤ (word c.args.p i)) in search (rules, v))
