-- `layout::find::first_fit` meets its contract: the table is a part of the one that was lent, and a settled table that is fixed is a placement.
-- Assumes nothing.
use mathlib.Core.Path.{◌≡◌}
use mathlib.Core.List.{List}
use mathlib.Core.Option.{some}
use native.Mathlib.Omega.{arith}
use lib.IntN.{ℤ}
use Rattle.sheet.specs.Settle.{settle_of}
use Rattle.sheet.proofs.Accepted.{accepted-head, accepted-table}
use Rattle.sheet.proofs.Places.{settle-places, settle-falls}
use Rattle.splits.specs.Splits.{Part}
use Rattle.splits.proofs.Parts.{part-refl, part-trans, upto-falls}
use Rattle.layout.proofs.Settles.{settled-part}
use Rattle.layout.proofs.Searches.{split-on, split-part}
use Rattle.layout.proofs.find.first_fit.Goals as goal

-- settling leaves a part of the table of a turn
settled : {block given t v : List ℤ} → Part block given t → settle_of block t ≡ some v → Part block t v
settled {block} {t = t} {v = v} x found = settled-part block t x.accepted v found

pub loop-table-init : goal.loop-table-init
loop-table-init c = part-refl c.args.block.now c.args.table.now c.requires

pub settled-requires : goal.settled-requires
settled-requires c = c.loop-table.invariant.accepted

pub first_open-requires : goal.first_open-requires
first_open-requires c =
    let v = settled c.loop-table.invariant (c.settled.ensures.yes c.loop-table-test.true) in
    (accepted-head _ _ v.accepted, accepted-table _ _ v.accepted)

pub returns-in_default : goal.returns-in_default
returns-in_default c =
    let t = c.loop-table.invariant in
    λ _. t.places _ (settle-places _ _ t.accepted _ (c.settled.ensures.yes c.loop-table-test.true) c.in_default.ensures)

pub keep_upto-requires : goal.keep_upto-requires
keep_upto-requires c = split-on _ (settled c.loop-table.invariant (c.settled.ensures.yes c.loop-table-test.true)).accepted c.in-Some.ensures

pub loop-table-smaller : goal.loop-table-smaller
loop-table-smaller c =
    let t = c.loop-table.invariant in
    let found = c.settled.ensures.yes c.loop-table-test.true in
    let less = upto-falls _ _ (settled t found).accepted _ _ _ c.in-Some.ensures in
    let kept = settle-falls _ _ t.accepted _ found in
    rw c.keep_upto.ensures (omega (arith, less, kept))

pub loop-table-preserved : goal.loop-table-preserved
loop-table-preserved c =
    let v = settled c.loop-table.invariant (c.settled.ensures.yes c.loop-table-test.true) in
    part-trans c.loop-table.invariant (part-trans v (split-part _ v.accepted c.in-Some.ensures c.keep_upto.ensures))
