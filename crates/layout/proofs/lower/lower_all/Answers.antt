-- `layout::lower::lower_all` meets its contract: the numbers one after another. Assumes nothing.
use mathlib.Core.Path.{◌≡◌, ap, ap₂, ◌∙◌, sym, subst}
use mathlib.Core.List.{List}
use Prim.Native.Nat.{ℕ, suc, ◌+◌, ◌*◌, ◌≤◌}
use native.Mathlib.Nat.{mul-le-mul}
use native.Mathlib.Numerals.{add-one}
use native.Mathlib.Omega.{arith}
use lib.IntN.{ℤ}
use Rattle.sheet.specs.Layout.{axes, rows}
use Rattle.sheet.specs.FirstLayout.{per_row, numbers}
use Rattle.sheet.proofs.Accepted.{accepted-head}
use Rattle.sheet.proofs.Precedes.{numbers-same}
use Rattle.layout.specs.Search.{Small}
use Rattle.layout.specs.Lowering.{Lowered}
use Rattle.layout.proofs.Searches.{small-part}
use Rattle.layout.proofs.Lowers.{lowered-start, lowered-then}
use Rattle.layout.proofs.lower.lower_all.Goals as goal

-- how many numbers there are, of n rows and k dimensions
few-axes : {block t : List ℤ} {k : ℕ} → Small block t → k ≡ axes block → k ≤ 4
few-axes {block} {t} w e = let h = (accepted-head block t w.accepted).few_axes in omega arith

count : (block t : List ℤ) {n k : ℕ} → n ≡ rows block t → k ≡ axes block → n * (k + 1) ≡ numbers block t
unfolding numbers per_row
count block t {k = k} e f = ap₂ ◌*◌ e (add-one k ∙ ap suc f)

few : {block t : List ℤ} {n k : ℕ} → Small block t → n ≡ rows block t → k ≡ axes block → n * (k + 1) ≤ 40
few {n = n} {k = k} w e f =
    let a = few-axes w f in
    let p : n ≤ 8 = omega (arith, w.few) in
    let q : k + 1 ≤ 5 = omega arith in
    mul-le-mul p q

pub rows_of-requires : goal.rows_of-requires
rows_of-requires c = accepted-head _ _ c.requires.0.accepted

pub axes_of-requires : goal.axes_of-requires
axes_of-requires c = accepted-head _ _ c.requires.0.accepted

pub overflow_add-count : goal.overflow_add-count
overflow_add-count c = omega (arith, few-axes c.requires.0 c.axes_of.ensures)

pub overflow_mul-count : goal.overflow_mul-count
overflow_mul-count c = omega (arith, few c.requires.0 c.rows_of.ensures c.axes_of.ensures)

pub loop-m-init : goal.loop-m-init
loop-m-init c = lowered-start _ _ _ c.requires.0.accepted c.requires.1

pub lower-requires : goal.lower-requires
lower-requires c =
    let x = c.loop-m.invariant in
    let many = count _ _ c.rows_of.ensures c.axes_of.ensures in
    let as_many = numbers-same c.args.block.now c.loop-m.rest c.args.rest.now x.part.inside.as_long in
    record {
      small = small-part _ c.requires.0 x.part;
      below = omega (arith, as_many, many, c.loop-m-test.true);
      placed = x.placed;
      agree = x.agree;
    }

pub loop-m-preserved : goal.loop-m-preserved
loop-m-preserved c = rw (add-one c.loop-m.m) (lowered-then c.args.block.now c.loop-m.invariant c.lower.ensures)

pub returns : goal.returns
returns c =
    let many = count _ _ c.rows_of.ensures c.axes_of.ensures in
    let e : c.loop-m.m ≡ numbers c.args.block.now c.args.rest.now = omega (arith, many, c.loop-m.auto.m-end, c.loop-m-test.false) in
    subst (λ (m : ℕ). Lowered c.args.block.now m c.args.rest.now c.args.best.now c.loop-m.rest c.loop-m.best) e c.loop-m.invariant
