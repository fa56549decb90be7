-- `nearby::suspect::region_of` meets its contract: the suspect's rule and row are asked, and the row's one shape forbids what its set does.
-- Assumes nothing.
use borrow.Author.Rules.{rules}
use mathlib.Core.Path.{◌≡◌, sym, ap₂, ◌∙◌}
use mathlib.Core.Bool.{true}
use mathlib.Core.List.{List}
use Prim.Native.Nat.{ℕ}
use lib.IntN.{ℤ}
use Rattle.std.specs.Prelude.{Option}
use Rattle.sheet.specs.Layout.{axes}
use Rattle.sheet.specs.Allowed.{set_forbids}
use Rattle.points.specs.declared.Area.{Area}
use Rattle.points.specs.Area.{in_area}
use Rattle.forbid.specs.Region.{IsRegion}
use Rattle.forbid.proofs.Regions.{forbids-same, forbids-and}
use Rattle.forbid.proofs.Rows.{set_single}
use Rattle.nearby.specs.Places.{rule_of, row_of, suspect_area}
use Rattle.nearby.specs.Listing.{suspect_forbids}
use Rattle.nearby.proofs.suspect.region_of.Goals as goal

-- what rule r and row j forbid, where they are the suspect's and its area holds p
by-suspect : (block table list : List ℤ) (i s e : ℕ) {r j : ℕ} {p : List ℤ} {x : Option Area}
    → in_area (axes block) (suspect_area list e) p ≡ true → r ≡ rule_of list e → j ≡ row_of list e
    → IsRegion (axes block) (λ q. set_forbids block table r q i s j) p x → IsRegion (axes block) (suspect_forbids block table i s list p e) p x
unfolding suspect_forbids
by-suspect block table list i s e held r j f =
    forbids-and held (forbids-same (λ q. ap₂ (λ (r j : ℕ). set_forbids block table r q i s j) r j) f)

pub returns-then-has_one_shape : goal.returns-then-has_one_shape
returns-then-has_one_shape c =
    let a = c.args in
    let one : c.has_one_shape.result ≡ true = search rules in
    by-suspect a.block.now a.table.now a.suspects.now a.i.number a.s a.e c.requires.2
    (c.rule_place-r.ensures.1 ∙ c.count_at.ensures)
    (c.row_place-j.ensures.1 ∙ c.count_at-2.ensures)
    (forbids-same (set_single _ _ _ _ _ _ _ c.lowest_shape-t.ensures.upto c.lowest_shape-t.ensures.held
    (sym c.has_one_shape.ensures ∙ one)) (c.shapes_region.ensures c.args.i.number))

pub returns : goal.returns
returns c =
    let a = c.args in
    by-suspect a.block.now a.table.now a.suspects.now a.i.number a.s a.e c.requires.2
    (c.rule_place-r.ensures.1 ∙ c.count_at.ensures)
    (c.row_place-j.ensures.1 ∙ c.count_at-2.ensures) (c.set_region.ensures c.args.i.number)
