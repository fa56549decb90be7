-- `nearby::gather::add_rows` meets its contract: so far the rows passed are listed. Assumes nothing.
use mathlib.Core.Path.{◌≡◌, ◌∙◌}
use Prim.Native.Nat.{suc}
use native.Mathlib.Omega.{arith}
use native.Mathlib.Numerals.{add-one}
use Rattle.sheet.specs.Layout.{rows}
use Rattle.sheet.specs.Allowed.{row_forbids}
use Rattle.forbid.specs.Region.{rows_forbid}
use Rattle.nearby.proofs.Gathers.{grows_start, grows-more, open_after}
use Rattle.nearby.proofs.gather.add_rows.Goals as goal

pub loop-j-init : goal.loop-j-init
loop-j-init c =
    let a = c.args in
    (c.requires.0.open_list, grows_start (λ m p. row_forbids a.block.now a.table.now a.r.number p a.q.i.number a.q.s (suc m)))

pub loop-j-preserved : goal.loop-j-preserved
loop-j-preserved c =
    let v = c.loop-j.invariant in
    let a = c.args in (
      open_after c.add_row-found.ensures v.0,
      grows-more (λ m p. row_forbids a.block.now a.table.now a.r.number p a.q.i.number a.q.s (suc m)) v.1
          (rw (c.row_place-other.ensures.1 ∙ add-one c.loop-j.j) at c.add_row-found.ensures),
    )

pub returns : goal.returns
unfolding rows_forbid
returns c =
    let q : c.loop-j.j ≡ rows c.args.block.now c.args.table.now = omega arith in
    rw q at c.loop-j.invariant.1
