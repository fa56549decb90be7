-- `clash::hulls_clash` meets its contract: hulls that are clear of each other hold no boxes that clash. Assumes nothing.
use mathlib.Core.Path.{sym, ap₂, ◌∙◌}
use Prim.Native.Nat.{ℕ}
use Rattle.integers.proofs.Booleans.{clash, fails}
use Rattle.outline.proofs.Solids.{shape-few}
use Rattle.forbid.proofs.Solids.{forbids_to, hulls-forbid, hull-places}
use Rattle.forbid.proofs.clash.hulls_clash.Goals as goal

pub hull_of-own-requires : goal.hull_of-own-requires
hull_of-own-requires c = let w = c.requires.0.at_point in shape-few w.accepted w.own

pub hull_of-other-requires : goal.hull_of-other-requires
hull_of-other-requires c = shape-few c.requires.0.at_point.accepted c.requires.1

pub pair_forbids-requires : goal.pair_forbids-requires
pair_forbids-requires c =
    let w = c.requires.0 in
    let a = w.at_point in
    hull-places a.accepted a.table a.outline w.rule w.row c.hull_of-own.ensures a.own c.hull_of-other.ensures c.requires.1

pub returns : goal.returns
returns c =
    let a = c.args in
    let w = c.requires.0.at_point in
    let hulls = ap₂ (λ (x y : ℕ). forbids_to a.block.now a.table.now a.outline.now a.r a.j x y a.p)
    c.hull_of-own.ensures c.hull_of-other.ensures in
    λ i clear. fails (λ e. clash (hulls-forbid _ _ _ a.r a.j w.outline i w.own c.requires.1 _ e)
    (sym hulls ∙ sym c.pair_forbids.ensures ∙ clear))
