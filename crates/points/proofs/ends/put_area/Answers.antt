-- `points::ends::put_area` meets its contract: so far the bounds of the dimensions passed are written. Assumes nothing.
use mathlib.Core.Path.{◌≡◌}
use native.Mathlib.Omega.{arith}
use lib.ListN.{length}
use borrow.Author.Rules.{rules}
use Rattle.points.specs.Area.{coordinates}
use Rattle.points.proofs.Runs.{area-is}
use Rattle.points.proofs.ends.put_area.Goals as goal

pub returns : goal.returns
returns c =
    let area = c.args.area in
    let i = c.loop-d.invariant in
    let low : length area.low ≡ coordinates = search rules in
    let high : length area.high ≡ coordinates = search rules in
    (i.0, area-is c.loop-d.words c.args.at area low high (λ d h. i.1 d (omega arith)) (λ d h. i.2 d (omega arith)))
