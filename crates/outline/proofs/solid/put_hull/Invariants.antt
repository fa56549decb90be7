-- `outline::solid::put_hull` meets its contract: in the dimensions passed the extents of the shape's boxes are written. Assumes nothing.
use mathlib.Core.List.{List}
use Prim.Native.Nat.{ℕ}
use lib.IntN.{ℤ}
use Rattle.sheet.specs.Layout.{boxes}
use Rattle.outline.specs.declared.solid.Extent.{Extent}
use Rattle.outline.specs.Places.{solid_at}
use Rattle.outline.specs.Solids.{Spans}
use Rattle.outline.proofs.Hulls.{Written}
use Rattle.outline.proofs.solid.put_hull.Given as goal

abbrev pub Spanned : List ℤ → ℕ → ℕ → Extent → Type 0
Spanned block s d x = Spans block s d (boxes block) x

abbrev pub invariant-loop-d : goal.invariant-loop-d
invariant-loop-d l = Written (solid_at l.hull) l.d (Spanned l.block l.s) l.initial.outline l.outline
