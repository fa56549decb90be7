-- `row::set_region` meets its contract: so far each shape passed forbids the point, and the area is what they share. Assumes nothing.
use Rattle.std.proofs.Common.{Some}
use Prim.Native.Nat.{ℕ}
use Rattle.sheet.specs.Layout.{axes}
use Rattle.forbid.specs.Region.{IsRegion}
use Rattle.forbid.proofs.Rows.{shapes_to}
use Rattle.forbid.proofs.row.set_region.Given as goal

abbrev pub invariant-loop-t : goal.invariant-loop-t
invariant-loop-t l = (i : ℕ) → IsRegion (axes l.block) (shapes_to l.block l.table l.r.number i l.s l.j.number l.t) l.p (Some l.area)
