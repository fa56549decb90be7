-- `layout::first_of` meets its contract: a placement is looked for in a copy of the table, lowered there, and written back. Assumes nothing.
use mathlib.Core.Path.{◌≡◌, refl, sym, subst}
use mathlib.Core.Bool.{Bool}
use mathlib.Core.List.{List}
use mathlib.Core.Option.{some}
use lib.IntN.{ℤ}
use Rattle.integers.proofs.Booleans.{clash}
use Rattle.sheet.specs.FirstLayout.{Places, FirstLayout, nothing}
use Rattle.layout.specs.Search.{Small, Found}
use Rattle.layout.proofs.Searches.{small-short, small-room}
use Rattle.layout.proofs.Lowers.{first-places}
use Rattle.layout.proofs.first_of.Goals as goal

pub slice_bounds-words-end : goal.slice_bounds-words-end
slice_bounds-words-end c = small-short c.args.block.now c.requires

pub slice_bounds-best-end : goal.slice_bounds-best-end
slice_bounds-best-end c = sym (small-room c.args.block.now c.requires)

pub copy_from_slice-requires : goal.copy_from_slice-requires
copy_from_slice-requires c = small-room c.args.block.now c.requires

pub place-requires : goal.place-requires
place-requires c = subst (Small c.args.block.now) (sym c.copy_from_slice.ensures.after) c.requires

-- what is found in the copy
found : {b t u v : List ℤ} {r : Bool} → u ≡ t → Found b u r v → Found b t r v
found {b} {v = v} {r = r} e = subst (λ (w : List ℤ). Found b w r v) e

pub returns-then-not-place : goal.returns-then-not-place
returns-then-not-place c =
    let none = (found c.copy_from_slice.ensures.after c.place.ensures).no c.if-not-place.true in
    record { yes = λ e. clash e refl; no = λ _. nothing none; same = λ _. refl }

pub to_first-requires : goal.to_first-requires
to_first-requires c = (c.requires, (found c.copy_from_slice.ensures.after c.place.ensures).yes c.if-not-place.false)

pub copy_from_slice-requires-2 : goal.copy_from_slice-requires-2
copy_from_slice-requires-2 c = sym ((first-places c.args.block.now c.to_first.ensures).inside.as_long)

pub returns : goal.returns
returns c =
    record {
      yes = λ _. subst (λ (w : List ℤ). FirstLayout c.args.block.now c.args.table.now (some w)) (sym c.copy_from_slice-2.ensures.after) c.to_first.ensures;
      no = λ x. clash refl x;
      same = λ x. clash refl x;
    }
