-- `nearby::due::threatens_shape` meets its contract: a shape that the row does not have is forbidden nothing. Assumes nothing.
use Rattle.std.proofs.Common.{Option, None, Some}
use Rattle.std.specs.Prelude.{is_some, IfNone}
use mathlib.Core.Path.{◌≡◌, refl, sym, ◌∙◌}
use mathlib.Core.Bool.{false}
use native.Mathlib.Omega.{arith}
use Rattle.integers.proofs.Booleans.{clash}
use Rattle.outline.proofs.Solids.{shape-few}
use Rattle.forbid.proofs.Solids.{hull-places}
use Rattle.nearby.proofs.Threats.{hulls-harmless}
use Rattle.nearby.proofs.due.threatens_shape.Goals as goal

pub hulls-requires : goal.hulls-requires
hulls-requires c = (omega (arith, c.requires.number.upto), shape-few c.requires.rows_of.accepted c.requires.shape)

pub pair_meets-requires : goal.pair_meets-requires
pair_meets-requires c =
    let f = c.requires.rows_of in
    let own = f.table.boxed _ _ f.row.from f.row.upto (sym c.has_shape.ensures ∙ c.if-has_shape.true) in
    (rw c.hulls.ensures (hull-places f.accepted f.table f.outline f.rule f.other refl own refl c.requires.shape), f.row)

-- no area
at-none : {A : Type 0} {P : Type 0} (x : Option A) → is_some x ≡ false → IfNone x P → P
at-none None e p = p
at-none (Some a) e p = clash refl e

pub returns-then-has_shape : goal.returns-then-has_shape
returns-then-has_shape c e =
    let f = c.requires.rows_of in
    hulls-harmless f.table f.outline c.args.r c.args.j c.args.s c.requires.shape f.row.from f.row.upto
    (rw c.hulls.ensures at (at-none _ (sym c.is_some.ensures ∙ e) c.pair_meets.ensures.clear))
