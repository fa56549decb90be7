-- `splits::pick::spread` meets its contract: a set of one shape and a range of one number have one value, every other has more. Assumes nothing.
use mathlib.Core.Path.{◌≡◌, sym, ◌∙◌, subst}
use mathlib.Core.List.{List}
use Prim.Native.Nat.{ℕ, suc, ◌-◌}
use native.Mathlib.Omega.{arith}
use lib.IntN.{ℤ, pos, ◌+ℤ◌}
use mir.Syntax.{w64}
use mir.Val.{to_z, of_z}
use Rattle.integers.proofs.Ints.{ints, sum}
use Rattle.sheet.specs.Layout.{low, high}
use Rattle.sheet.specs.Cuts.{HasNumber}
use Rattle.sheet.proofs.Numbers.{only-single, still-single}
use Rattle.words.proofs.Reading.{read_back}
use Rattle.splits.specs.Picks.{OnRow, Spread}
use Rattle.words.specs.declared.Place.{Place}
use Rattle.splits.proofs.Values.{shapes-several, range-several}
use Rattle.splits.proofs.pick.spread.Goals as goal

-- a row has a set
set-of : {b t : List ℤ} {i : Place} → OnRow b t i → HasNumber b t i.number 0
set-of o = record { from = o.row.from; upto = o.row.upto; few = omega arith }

pub returns-then-has_one_shape : goal.returns-then-has_one_shape
returns-then-has_one_shape c =
    let a = c.args in
    let o = c.requires.0 in
    let one = sym c.has_one_shape.ensures ∙ c.if-has_one_shape.true in
    rw c.if-column-eq0.true record {
      few = omega arith;
      none = λ _. only-single a.block.now a.table.now o.table a.i.number (set-of o) one;
      some = λ l. absurd (omega arith);
    }

pub returns-then-column-eq0 : goal.returns-then-column-eq0
returns-then-column-eq0 c =
    let a = c.args in
    let o = c.requires.0 in
    let several = sym c.has_one_shape.ensures ∙ c.if-has_one_shape.false in
    rw c.if-column-eq0.true record {
      few = omega arith;
      none = λ q. absurd (omega arith);
      some = λ _. shapes-several a.block.now a.table.now o.table a.i.number (set-of o) several;
    }

pub returns : goal.returns
returns c =
    let a = c.args in
    let o = c.requires.0 in
    let b = a.block.now in
    let t = a.table.now in
    let i = a.i.number in
    let r = c.gap.result in
    let d : ℕ = a.column - 1 in
    let lo : to_z w64 (of_z w64 c.low_of-low.result) ≡ low b t i d = read_back c.low_of-low.ensures c.low_of-low.type_inv in
    let hi : to_z w64 (of_z w64 c.high_of-high.result) ≡ high b t i d = read_back c.high_of-high.ensures c.high_of-high.type_inv in
    let across : low b t i d +ℤ pos r ≡ high b t i d = rw (lo, hi) at c.gap.ensures.0 in
    let column : suc d ≡ a.column = let ne = c.if-column-eq0.false in omega arith in
    subst (λ (e : ℕ). Spread b t i e r) column record {
      few = let l = c.gap.ensures.1 in omega arith;
      none = λ q. still-single b t o.table i d (omega (ints, across, q, sum (low b t i d) (pos r)));
      some = λ l. range-several b t o.table i d (omega (ints, across, l, sum (low b t i d) (pos r)));
    }
