-- `fill::room::cells_of` meets its contract: the product of the widths so far is kept, and is from 1 to 4,096. Assumes nothing.
use mathlib.Core.Logic.{inl, inr, ⊎_elim}
use mathlib.Core.Path.{◌≡◌, sym, ap, ap₂, ◌∙◌}
use Prim.Native.Nat.{◌+◌, ◌*◌, ◌≤◌, ◌<◌}
use native.Mathlib.Nat.{mul-le-mul}
use native.Mathlib.Omega.{arith}
use Rattle.integers.proofs.Digits.{product-zero, product-more}
use Rattle.sheet.specs.Layout.{dims}
use Rattle.fill.proofs.Rooms.{width-upto, cells_to, too_many, cells-found}
use Rattle.fill.proofs.room.cells_of.Goals as goal
use Rattle.fill.proofs.room.cells_of.Goals.{In-loop-d, After-width_of-n}

-- the dimension at hand is one of the sheet's
is-dim : (c : In-loop-d) → c.loop-d.d < dims c.args.block.now
is-dim c = omega (arith, c.dims_of-d-end.ensures, c.loop-d-test.true)

-- with its width
cells-next : (c : After-width_of-n) → c.loop-d.n * c.width_of-n.result ≡ cells_to c.args.block.now c.args.r.number (c.loop-d.d + 1)
cells-next c = ap₂ ◌*◌ c.loop-d.invariant.0 c.width_of-n.ensures ∙ sym (product-more _ _)

pub dims_of-d-end-requires : goal.dims_of-d-end-requires
dims_of-d-end-requires c = c.requires.accepted.head

pub loop-d-init : goal.loop-d-init
loop-d-init c = (sym (product-zero _), omega arith, omega arith)

pub width_of-n-requires : goal.width_of-n-requires
width_of-n-requires c = (c.requires, is-dim c)

pub overflow_mul-n : goal.overflow_mul-n
overflow_mul-n c =
    let w : c.width_of-n.result ≤ 2000000 = rw c.width_of-n.ensures (width-upto c.requires (is-dim c.before)) in
    record { fits = omega (arith, mul-le-mul c.loop-d.invariant.2 w) }

pub returns-then-n-eq0 : goal.returns-then-n-eq0
returns-then-n-eq0 c =
    let x = c.before in
    too_many _ _ (c.loop-d.d + 1) (omega (arith, is-dim x.before)) (cells-next x) (⊎_elim inl (λ w. inr w.1) c.then-n-eq0.either)

pub loop-d-preserved : goal.loop-d-preserved
loop-d-preserved c = (cells-next c.before.before, omega arith, omega arith)

pub returns : goal.returns
returns c =
    let i = c.loop-d.invariant in
    let q : c.loop-d.d ≡ dims c.args.block.now = omega (arith, c.dims_of-d-end.ensures, c.loop-d.auto.d-end, c.loop-d-test.false) in
    cells-found _ _ (i.0 ∙ ap (cells_to _ _) q) i.1 i.2
