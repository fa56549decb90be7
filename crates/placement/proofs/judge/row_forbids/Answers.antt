-- `judge::row_forbids` meets its contract: a row that is named forbids what its one shape does. Assumes nothing.
use mathlib.Core.Path.{◌≡◌, sym, ◌∙◌}
use mathlib.Core.Bool.{true}
use Rattle.std.proofs.Common.{rules}
use Rattle.sheet.specs.Layout.{names_row}
use Rattle.sheet.specs.Accepted.{Boxed}
use Rattle.sheet.proofs.Fixed.{Row}
use Rattle.words.proofs.Ends.{row-bit}
use Rattle.forbid.specs.Region.{Versus}
use Rattle.placement.specs.Before.{named_forbids, SoleShape}
use Rattle.placement.proofs.OneShape.{lowest-sole}
use Rattle.placement.proofs.Earlier.{sole-set, row-fixed}
use Rattle.placement.proofs.judge.row_forbids.Goals as goal

pub names_row-requires : goal.names_row-requires
names_row-requires c =
    let w = c.requires in
    (w.1, w.0.sheet.accepted.row_sets _ w.1.below, row-bit w.2)

pub returns-then-not-names_row : goal.returns-then-not-names_row
unfolding named_forbids
returns-then-not-names_row c = rw (sym c.names_row.ensures ∙ c.if-not-names_row.true)

pub lowest_shape-t-requires : goal.lowest_shape-t-requires
lowest_shape-t-requires c = let w = c.requires in (w.0.sheet.table, w.2)

-- its lowest shape is the other row's one shape
sole : (x : goal.After-lowest_shape-t) → let a = x.args in
    SoleShape a.block.now a.table.now a.j.number x.lowest_shape-t.result
sole x =
    let w = x.requires in
    let sheet = w.0.sheet in
    let row : Row _ _ _ = record { from = w.2.from; upto = w.2.upto } in
    lowest-sole _ _ (row-fixed _ _ sheet.all_fixed row) x.lowest_shape-t.ensures

-- what the code for the other row leans on
versus : (x : goal.After-lowest_shape-t) → let a = x.args in
    Versus a.block.now a.table.now a.outline.now a.r a.s a.j a.p
versus x =
    let w = x.requires in
    let sheet = w.0.sheet in
    record {
      at_point = record {
        accepted = sheet.accepted;
        table = sheet.table;
        outline = sheet.outline;
        own = w.0.shape;
        near = w.0.near;
      };
      rule = w.1;
      row = w.2;
    }

other : (x : goal.After-lowest_shape-t) → Boxed x.args.block.now x.lowest_shape-t.result
other x =
    let w = x.requires in
    w.0.sheet.table.boxed _ _ w.2.from w.2.upto x.lowest_shape-t.ensures.held

pub hulls_clash-requires : goal.hulls_clash-requires
hulls_clash-requires c = (versus c, other c)

-- the rule names the row
named : (x : goal.After-lowest_shape-t) → let a = x.args in names_row a.block.now a.r.number a.j.number ≡ true
named x = sym x.names_row.ensures ∙ x.if-not-names_row.false

pub shapes_region-requires : goal.shapes_region-requires
shapes_region-requires c = let x = c.before.before in (versus x, other x)

pub returns-then-hulls_clash : goal.returns-then-hulls_clash
unfolding named_forbids
returns-then-hulls_clash c =
    let x = c.before.before.before.before.before in
    rw (named x) ((search rules) ∙ (c.shapes_region.ensures _).hit ∙ sole-set _ _ (sole x) _ _ _ _)

pub returns-else-hulls_clash : goal.returns-else-hulls_clash
unfolding named_forbids
returns-else-hulls_clash c =
    let x = c.before.before in
    rw (named x, c.if-hulls_clash.false) (sym (sym (sole-set _ _ (sole x) _ _ _ _) ∙ c.hulls_clash.ensures _ c.if-hulls_clash.false))
