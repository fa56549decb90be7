-- `points::ends::area_holds` meets its contract: the two halves of the area are parts of the run. Assumes nothing.
use mathlib.Core.Path.{refl, sym, ap, ◌∙◌}
use Rattle.points.specs.declared.Area.{Area}
use Rattle.points.specs.Area.{in_area}
use Rattle.points.proofs.Runs.{area-parts}
use Rattle.points.proofs.ends.area_holds.Goals as goal

pub returns : goal.returns
returns c =
    let s = c.before.before.before in
    let a = s.args in
    c.lies_between.ensures
    ∙ ap (λ (x : Area). in_area a.k x a.p) (sym (area-parts a.words.now a.at _ _ refl refl s.requires.0))
