-- `nearby::gather::add_row` meets its contract: the row itself, one that is not named and one whose lowest shape's hull forbids no point of the
-- ranges add nothing. Assumes nothing.
use mathlib.Core.Path.{sym, ◌∙◌}
use Rattle.outline.proofs.Solids.{shape-few}
use Rattle.sheet.proofs.Accepted.{set-count}
use Rattle.forbid.proofs.Rows.{itself-none, unnamed-none}
use Rattle.nearby.proofs.Threats.{Rival, rival-boxed, rival-places, rival-set, rival-clear, rival-threat}
use Rattle.nearby.proofs.Gathers.{grows_none, grows-clear, grows-by}
use Rattle.nearby.proofs.gather.add_row.Goals as goal
use Rattle.nearby.proofs.gather.add_row.Goals.{After-lowest_shape-t}

pub returns-then-own-other : goal.returns-then-own-other
returns-then-own-other c = grows_none (itself-none _ _ _ _ _ _ c.if-own-other.true)

pub returns-then-not-names_row : goal.returns-then-not-names_row
returns-then-not-names_row c =
    grows_none (unnamed-none _ _ _ _ _ _ c.if-own-other.false (sym c.names_row.ensures ∙ c.if-not-names_row.true))

-- the other row, which the rule names, and its lowest shape
rival : (c : After-lowest_shape-t) → let a = c.args in
    Rival a.block.now a.table.now a.outline.now a.q.i a.q.s a.r a.j c.lowest_shape-t.result
rival c =
    let p = c.requires in
    record {
      subject = p.0.subject;
      binds = p.1;
      row = p.2;
      another = c.if-own-other.false;
      names = sym c.names_row.ensures ∙ c.if-not-names_row.false;
      lowest = c.lowest_shape-t.ensures;
    }

pub hulls-pair-requires : goal.hulls-pair-requires
hulls-pair-requires c =
    let x = rival c in
    (shape-few x.subject.accepted x.subject.shape, shape-few x.subject.accepted (rival-boxed x))

pub pair_meets-requires : goal.pair_meets-requires
pair_meets-requires c =
    let x = rival (goal.at.pair_meets-requires c).After-lowest_shape-t in
    (rw c.hulls-pair.ensures (rival-places x), x.subject.row)

pub returns-in_default : goal.returns-in_default
returns-in_default c =
    grows-clear (rival-clear (rival (goal.at.returns-in_default c).After-lowest_shape-t) (rw c.hulls-pair.ensures at c.in_default.ensures.clear))

pub fills_hulls-fills-requires : goal.fills_hulls-fills-requires
fills_hulls-fills-requires c =
    let x = rival (goal.at.fills_hulls-fills-requires c).After-lowest_shape-t in
    let w = x.subject in
    record {
      chained = w.outline.chained;
      own = shape-few w.accepted w.shape;
      other = shape-few w.accepted (rival-boxed x);
      row = x.row;
      set = set-count w.table x.row.from x.row.upto;
    }

pub returns : goal.returns
returns c =
    let x = rival (goal.at.returns c).After-lowest_shape-t in
    let area = rw c.hulls-pair.ensures at c.in-Some.ensures.area in
    grows-by (rival-set x) (c.add_area.ensures _ _ _ _ (rival-threat x area c.fills_hulls-fills.ensures))
