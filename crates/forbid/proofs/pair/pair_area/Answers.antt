-- `pair::pair_area` meets its contract: so far the field is cut in each dimension passed. Assumes nothing.
use mathlib.Core.Path.{sym, ◌∙◌}
use native.Mathlib.Omega.{arith}
use Rattle.forbid.proofs.Solids.{sides-none, sides-skip, sides-set, sides-all}
use Rattle.forbid.proofs.pair.pair_area.Goals as goal
use Rattle.forbid.proofs.pair.pair_area.Goals.{then-names_dim, else-names_dim}

pub loop-d-init : goal.loop-d-init
loop-d-init c = rw c.field-area.ensures (sides-none _ _ _ _)

pub loop-d-preserved : goal.loop-d-preserved
loop-d-preserved c =
    let s = c.loop-d.invariant in
    elim c.if-names_dim.branch [
      | then-names_dim w ↦ rw w.area-is (sides-set _ _ _ _ s c.requires.accepted (omega arith) (sym c.names_dim.ensures ∙ w.if-names_dim.true)
          w.interval_of-x.ensures)
      | else-names_dim w ↦ rw w.area-is (sides-skip _ _ _ _ s (sym c.names_dim.ensures ∙ w.if-names_dim.false))
    ]

pub returns : goal.returns
returns c = sides-all _ _ _ _ (omega arith) c.loop-d.invariant
