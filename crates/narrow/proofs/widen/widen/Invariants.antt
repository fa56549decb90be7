-- `widen::widen` meets its contract: the ends passed have taken in the shape. Assumes nothing.
use mathlib.Core.Bool.{false}
use Prim.Native.Nat.{ℕ, ◌<◌, ◌-◌}
use lib.ListN.{get_or}
use Rattle.sheet.specs.Layout.{axes}
use Rattle.nearby.specs.Listing.{Listed}
use Rattle.narrow.specs.Ends.{SideTo, Edges}
use Rattle.narrow.proofs.widen.widen.Given as goal

abbrev pub invariant-loop-flip : goal.invariant-loop-flip
invariant-loop-flip l = record {
  edges : Edges l.block l.table l.nearby.i.number (l.nearby.s - 1) l.ends;
  sides : (j : ℕ) → j < l.flip-index
      → SideTo l.block l.table l.nearby.i.number (get_or l.flip-items j false) l.nearby.s (axes l.block) l.ends;
  listed : Listed l.block l.table l.nearby l.suspects l.known;
}

abbrev pub invariant-loop-d : goal.invariant-loop-d
invariant-loop-d l = record {
  edges : Edges l.block l.table l.nearby.i.number (l.nearby.s - 1) l.ends;
  sides : (j : ℕ) → j < l.flip-index
      → SideTo l.block l.table l.nearby.i.number (get_or l.flip-items j false) l.nearby.s (axes l.block) l.ends;
  side : SideTo l.block l.table l.nearby.i.number l.flip l.nearby.s l.d l.ends;
  listed : Listed l.block l.table l.nearby l.suspects l.known;
}
