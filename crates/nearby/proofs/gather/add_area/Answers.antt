-- `nearby::gather::add_area` meets its contract: an area that is not remembered is a suspect's, if there is room. Assumes nothing.
use mathlib.Core.Path.{◌≡◌, ◌∙◌}
use native.Mathlib.Omega.{arith}
use Rattle.nearby.proofs.Gathers.{grows-known, grows-suspect}
use Rattle.nearby.proofs.gather.add_area.Goals as goal
use Rattle.nearby.proofs.gather.add_area.Goals.{else-fills-via-then-fills+else-remember, else-fills-via-else-fills}

pub returns-then-remember : goal.returns-then-remember
returns-then-remember c block table i s threat = grows-known threat c.remember.ensures c.if-remember.true c.if-fills.true

pub returns : goal.returns
returns c block table i s threat =
    let p = c.requires in
    let e = c.put_suspect.ensures in
    -- the known areas are as they were
    let same : c.else-fills.known ≡ c.args.known.now = elim c.else-fills.branch [
      | else-fills-via-then-fills+else-remember x ↦ x.known-is ∙ x.remember.ensures.same x.if-remember.false
      | else-fills-via-else-fills x ↦ x.known-is
    ] in
    let fits = rw c.in_ok-e.was at p.fits in
    rw (same, c.in_ok-e.was) (grows-suspect threat _ e.0 e.1 e.2 e.3 p.rule p.row (omega (arith, fits)))
