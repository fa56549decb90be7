-- `settle::threatens` meets its contract. Assumes nothing.
use mathlib.Core.Path.{◌≡◌, ◌∙◌, subst}
use Prim.Native.Nat.{ℕ}
use native.Mathlib.Numerals.{add-one}
use Rattle.nearby.specs.Due.{HarmlessBy}
use Rattle.settle.proofs.threatens.Goals as goal

pub returns : goal.returns
returns c e names =
    subst (λ (k : ℕ). HarmlessBy c.args.block.now c.args.table.now c.args.r.number c.args.i.number k)
    (c.row_place-row.ensures.1 ∙ add-one c.args.m) (c.threatens_row.ensures e)
