-- `layout::lower::probe` meets its contract: what is found in the part is the best, and else the rest is cut. Assumes nothing.
use mathlib.Core.Path.{◌≡◌, refl, sym, ap, ◌∙◌, subst}
use mathlib.Core.List.{List}
use lib.IntN.{ℤ}
use Rattle.sheet.specs.FirstLayout.{Places}
use Rattle.splits.specs.Splits.{upto_value}
use Rattle.splits.proofs.Parts.{split-near}
use Rattle.layout.specs.Search.{NoPlacement}
use Rattle.layout.specs.Lowering.{found, missing}
use Rattle.layout.proofs.Searches.{small-part, small-short, small-room, split-on, split-part}
use Rattle.layout.proofs.lower.probe.Goals as goal

pub slice_bounds-words-end : goal.slice_bounds-words-end
slice_bounds-words-end c = small-short c.args.block.now c.requires.0

pub slice_bounds-part-end : goal.slice_bounds-part-end
slice_bounds-part-end c = sym (small-room c.args.block.now c.requires.0)

pub copy_upto-requires : goal.copy_upto-requires
copy_upto-requires c = (split-on _ c.requires.0.accepted c.requires.1, small-room c.args.block.now c.requires.0)

pub place-requires : goal.place-requires
place-requires c = small-part c.args.block.now c.requires.0 (split-part _ c.requires.0.accepted c.requires.1 c.copy_upto.ensures)

pub copy_from_slice-requires : goal.copy_from_slice-requires
copy_from_slice-requires c =
    let part = split-part _ c.requires.0.accepted c.requires.1 c.copy_upto.ensures in
    c.requires.2 ∙ sym ((part.places _ (c.place.ensures.yes c.if-place.true)).inside.as_long)

pub returns-then-place : goal.returns-then-place
returns-then-place c =
    let b = c.args.block.now in
    let s = c.args.s in
    let placed = subst (λ (w : List ℤ). Places b w c.place.new.table) c.copy_upto.ensures (c.place.ensures.yes c.if-place.true) in
    found (subst (Places b (upto_value b c.args.rest.now s.row s.column s.at)) (sym c.copy_from_slice.ensures.after) placed) refl

pub keep_past-requires : goal.keep_past-requires
keep_past-requires c =
    (split-on _ c.requires.0.accepted c.requires.1, split-near c.args.block.now c.args.rest.now c.requires.0.accepted _ _ _ c.requires.1)

pub returns-else-place : goal.returns-else-place
returns-else-place c =
    missing (subst (NoPlacement c.args.block.now) c.copy_upto.ensures (c.place.ensures.no c.if-place.false)) c.keep_past.ensures refl
