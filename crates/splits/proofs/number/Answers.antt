-- `splits::number` meets its contract: column 0 is the lowest shape, every other a low end. Assumes nothing.
use mathlib.Core.Path.{◌≡◌, sym, ap, ◌∙◌}
use mathlib.Core.List.{List}
use Prim.Native.Nat.{ℕ, ◌-◌}
use native.Mathlib.Omega.{arith}
use lib.IntN.{ℤ}
use mir.Facts.{to_z_pos}
use mir.Syntax.{w64}
use Rattle.integers.specs.Integer.{Within}
use Rattle.integers.proofs.Machine.{within_by}
use Rattle.sheet.specs.Layout.{low}
use Rattle.sheet.specs.Cuts.{HasNumber, number}
use Rattle.words.proofs.Reading.{read_back}
use Rattle.words.specs.Shapes.{LowestShape}
use Rattle.splits.specs.Splits.{far, OnNumber}
use Rattle.splits.proofs.Values.{number-near, lowest-number, coordinate}
use Rattle.splits.proofs.number.Goals as goal

-- what is read is the number, which is near
near : (b t : List ℤ) {i c : ℕ} {z : ℤ} → OnNumber b t i c → z ≡ number b t i c → (z ≡ number b t i c) × Within far z
near b t {i} {c} o e = (e, within_by e (number-near b t o.table i c o.has))

pub returns-then-column-eq0 : goal.returns-then-column-eq0
returns-then-column-eq0 c =
    let a = c.args in
    let b = a.block.now in
    let t = a.table.now in
    let e = c.if-column-eq0.true in
    let l : LowestShape b t a.row c.lowest_shape.result = rw c.row_place-i.ensures.1 at c.lowest_shape.ensures in
    let n : HasNumber b t a.row 0 = rw e at c.requires.has in
    near b t c.requires
    (to_z_pos w64 (omega (arith, l.upto)) ∙ sym (lowest-number b t c.requires.table a.row _ n l) ∙ ap (number b t a.row) (sym e))

pub returns-else-column-eq0 : goal.returns-else-column-eq0
returns-else-column-eq0 c =
    let a = c.args in
    let b = a.block.now in
    let t = a.table.now in
    let same_row = ap (λ (i : ℕ). low b t i (a.column - 1)) c.row_place-i.ensures.1 in
    near b t c.requires
    (read_back (c.low_of.ensures ∙ same_row) c.low_of.type_inv ∙ sym (coordinate b t a.row a.column c.if-column-eq0.false))
