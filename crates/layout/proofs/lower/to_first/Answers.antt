-- `layout::lower::to_first` meets its contract: every number is lowered, in a copy of the table. Assumes nothing.
use mathlib.Core.Path.{◌≡◌, refl, sym, subst}
use mathlib.Core.List.{List}
use lib.IntN.{ℤ}
use Rattle.sheet.specs.FirstLayout.{Places, numbers}
use Rattle.layout.specs.Search.{Small}
use Rattle.layout.specs.Lowering.{Lowered}
use Rattle.layout.proofs.Searches.{small-short, small-room}
use Rattle.layout.proofs.Lowers.{lowered-last}
use Rattle.layout.proofs.lower.to_first.Goals as goal

pub slice_bounds-words-end : goal.slice_bounds-words-end
slice_bounds-words-end c = small-short c.args.block.now c.requires.0

pub slice_bounds-rest-end : goal.slice_bounds-rest-end
slice_bounds-rest-end c = sym (small-room c.args.block.now c.requires.0)

pub copy_from_slice-requires : goal.copy_from_slice-requires
copy_from_slice-requires c = small-room c.args.block.now c.requires.0

pub lower_all-requires : goal.lower_all-requires
lower_all-requires c =
    let copied = c.copy_from_slice.ensures.after in (
      subst (Small c.args.block.now) (sym copied) c.requires.0,
      subst (λ (w : List ℤ). Places c.args.block.now w c.args.best.now) (sym copied) c.requires.1,
    )

pub returns : goal.returns
returns c =
    let b = c.args.block.now in
    let w = subst (λ (v : List ℤ). Lowered b (numbers b v) v c.args.best.now c.lower_all.new.rest c.lower_all.new.best)
    c.copy_from_slice.ensures.after c.lower_all.ensures in
    lowered-last b w refl
