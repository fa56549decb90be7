-- `outline::solid::put_box` meets its contract: in the dimensions passed its extents are written. Assumes nothing.
use mathlib.Core.Path.{◌≡◌}
use mathlib.Core.List.{List}
use Prim.Native.Nat.{ℕ}
use lib.IntN.{ℤ, ◌+ℤ◌}
use Rattle.sheet.specs.Layout.{offset, size}
use Rattle.outline.specs.declared.solid.Extent.{Extent}
use Rattle.outline.specs.Places.{solid_at}
use Rattle.outline.proofs.Hulls.{Written}
use Rattle.outline.proofs.solid.put_box.Given as goal

abbrev pub Own : List ℤ → ℕ → ℕ → Extent → Type 0
Own block b d x = (x.start ≡ offset block b d) × (x.end ≡ offset block b d +ℤ size block b d)

abbrev pub invariant-loop-d : goal.invariant-loop-d
invariant-loop-d l = Written (solid_at l.b) l.d (Own l.block l.b) l.initial.outline l.outline
