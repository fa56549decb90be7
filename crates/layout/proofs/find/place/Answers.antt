-- `layout::find::place` meets its contract: the first fit is tried on a copy, and a search looks for the rest. Assumes nothing.
use mathlib.Core.Path.{◌≡◌, refl, sym, ap, ◌∙◌, subst}
use mathlib.Core.List.{List}
use lib.IntN.{ℤ}
use Rattle.integers.proofs.Booleans.{clash}
use Rattle.sheet.specs.Refusal.{refusal}
use Rattle.sheet.specs.FirstLayout.{Places}
use Rattle.layout.proofs.Searches.{small-short, small-room}
use Rattle.layout.proofs.find.place.Goals as goal

pub slice_bounds-words-end : goal.slice_bounds-words-end
slice_bounds-words-end c = small-short c.args.block.now c.requires

pub slice_bounds-tried-end : goal.slice_bounds-tried-end
slice_bounds-tried-end c = sym (small-room c.args.block.now c.requires)

pub copy_from_slice-requires : goal.copy_from_slice-requires
copy_from_slice-requires c = small-room c.args.block.now c.requires

pub first_fit-requires : goal.first_fit-requires
first_fit-requires c = subst (λ (w : List ℤ). refusal c.args.block.now w ≡ 0) (sym c.copy_from_slice.ensures.after) c.requires.accepted

pub returns-then-first_fit : goal.returns-then-first_fit
returns-then-first_fit c =
    let b = c.args.block.now in
    let placed = subst (λ (w : List ℤ). Places b w c.first_fit.new.table) c.copy_from_slice.ensures.after (c.first_fit.ensures c.if-first_fit.true) in
    record { yes = λ _. subst (Places b c.args.table.now) (sym c.copy_from_slice-then-first_fit.ensures.after) placed; no = λ q. clash refl q }
