-- `new` makes the start of a sweep.
-- Assumes nothing.
use Rattle.std.proofs.Common.{rules, arith}
use Rattle.integers.proofs.Machine.{bnd, num, ◌+ʷ◌, exact}
use Rattle.sweep.specs.Point.{next, nexts}
use Rattle.sweep.proofs.Points.{near_fits}
use Rattle.sweep.proofs.Maps.{serves-words, mapped}
use Rattle.sweep.proofs.Sweep.new.Goals as goal

pub map-requires : goal.map-requires
map-requires c = (omega arith, (omega arith, (omega arith, serves-words (λ i q κs r g e f. near_fits (c.requires.near i) _ tt))))

pub returns : goal.returns
unfolding nexts
returns c =
    rw (mapped next c.map.ensures.items (search rules) (λ i y a b k. let v = exact (bnd (c.requires.near i) +ʷ num 1) tt in search (rules, v)))
