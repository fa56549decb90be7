-- `judge::row_stands` meets its contract: the cut box holds the points of the ranges at which every room rule holds. Assumes nothing.
use mathlib.Core.Path.{◌≡◌, sym, ap, ◌∙◌}
use mathlib.Core.Bool.{◌&&◌}
use Prim.Native.Nat.{ℕ}
use native.Mathlib.Omega.{arith}
use Rattle.integers.proofs.Booleans.{clash, not-true, not-false, and-true}
use Rattle.sheet.specs.Layout.{axes}
use Rattle.sheet.specs.Allowed.{in_ranges, rooms_hold}
use Rattle.sheet.proofs.Fixed.{Row}
use Rattle.points.specs.Area.{in_area}
use Rattle.points.proofs.Areas.{in_small}
use Rattle.placement.specs.Before.{SoleShape}
use Rattle.placement.proofs.OneShape.{lowest-sole}
use Rattle.placement.proofs.Earlier.{row-fixed, bad-cut, bad-before}
use Rattle.placement.proofs.judge.row_stands.Goals as goal
use Rattle.placement.proofs.judge.row_stands.Goals.{After-holds}

module _ (s : goal.Start) where
  row : Row s.args.block.now s.args.table.now s.args.i.number
  row = record { from = s.requires.1.from; upto = s.requires.1.upto }

module _ (c : After-holds) where
  abbrev found : goal.After-origin-p
  found = c.before.before.before

  abbrev top : goal.Start
  top = c.before.before.before.before.before

  sole : SoleShape top.args.block.now top.args.table.now top.args.i.number found.lowest_shape-s.result
  sole = lowest-sole _ _ (row-fixed _ _ top.requires.0.all_fixed (row top)) found.lowest_shape-s.ensures

  in_cut : in_area (axes top.args.block.now) c.cut_box-cut.result found.origin-p.result ≡ c.holds.result
  in_cut =
      ap (λ (n : ℕ). in_area n c.cut_box-cut.result found.origin-p.result) (sym c.axes_of-k.ensures)
      ∙ sym c.holds.ensures

  -- what the box test says
  boxed : (in_ranges top.args.block.now top.args.table.now top.args.i.number found.origin-p.result
      && rooms_hold top.args.block.now top.args.i.number found.lowest_shape-s.result found.origin-p.result) ≡ c.holds.result
  boxed = sym (c.cut_box-cut.ensures.is _) ∙ in_cut

pub lowest_shape-s-requires : goal.lowest_shape-s-requires
lowest_shape-s-requires c = (c.requires.0.table, c.requires.1)

pub origin-p-requires : goal.origin-p-requires
origin-p-requires c = (c.requires.0.accepted, c.requires.0.table, c.requires.1)

pub axes_of-k-requires : goal.axes_of-k-requires
axes_of-k-requires c = c.requires.0.accepted.head

pub cut_box-cut-requires : goal.cut_box-cut-requires
cut_box-cut-requires c =
    let w = c.requires.0 in
    let i = c.requires.1 in
    record {
      accepted = w.accepted;
      table = w.table;
      outline = w.outline;
      row = i;
      shape = w.table.boxed _ _ i.from i.upto c.lowest_shape-s.ensures.held;
    }

pub holds-requires : goal.holds-requires
holds-requires c = omega (arith, c.axes_of-k.ensures, c.requires.0.accepted.head.few_axes)

pub is_forbidden-requires : goal.is_forbidden-requires
is_forbidden-requires c =
    let h = c.before in
    let s = top h in
    let w = s.requires.0 in
    let i = s.requires.1 in
    record {
      sheet = w;
      row = i;
      shape = w.table.boxed _ _ i.from i.upto (found h).lowest_shape-s.ensures.held;
      near = in_small _ _ h.cut_box-cut.ensures.small (in_cut h ∙ c.if-holds.true);
    }

pub returns-then-holds : goal.returns-then-holds
returns-then-holds c =
    let h = c.before.before in
    let s = top h in
    let w = s.requires.0 in
    let inside = and-true (boxed h ∙ c.if-holds.true) in
    record {
      clear = λ e. record {
        shape = (found h).lowest_shape-s.result;
        point = (found h).origin-p.result;
        sole = sole h;
        at = (found h).origin-p.ensures;
        ranges = inside.0;
        rooms = inside.1;
        free = sym c.is_forbidden.ensures ∙ not-true e;
      };
      bad = λ e. bad-before _ _ (row s) (sole h) _ (found h).origin-p.ensures
          (sym c.is_forbidden.ensures ∙ not-false e);
    }

pub returns-else-holds : goal.returns-else-holds
returns-else-holds c =
    let h = c.before in
    let s = top h in
    record {
      clear = λ e. clash e c.if-holds.false;
      bad = λ e. bad-cut _ _ (row s) (sole h) _ (found h).origin-p.ensures (boxed h ∙ e);
    }
