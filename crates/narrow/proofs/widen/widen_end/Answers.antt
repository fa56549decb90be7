-- `widen::widen_end` meets its contract: what is found ahead of the end, if anything, is taken in (proofs/OneEnd). Assumes nothing.
use mathlib.Core.Path.{sym, ◌∙◌, subst}
use Rattle.integers.specs.Integer.{Within}
use Rattle.sheet.specs.Layout.{axes}
use Rattle.points.proofs.Sums.{bits_back}
use Rattle.narrow.specs.Ends.{beyond}
use Rattle.narrow.proofs.OneEnd.{begun, few, end-near, edge_stays, ahead-searched, edge-alone, others-kept, edge-taken}
use Rattle.narrow.proofs.widen.widen_end.Goals as goal

pub none_past-requires : goal.none_past-requires
none_past-requires c = few (begun c.requires)

pub returns-then-none_past : goal.returns-then-none_past
returns-then-none_past c =
    let z = bits_back c.end_of-z.type_inv ∙ c.end_of-z.ensures in
    (λ n flip d h e. e, edge_stays (begun c.requires) (rw z at (sym c.none_past.ensures ∙ c.if-none_past.true)), c.requires.0.listed)

pub ahead_of-ahead-requires : goal.ahead_of-ahead-requires
ahead_of-ahead-requires c =
    let z = bits_back c.end_of-z.type_inv ∙ c.end_of-z.ensures in
    (few (begun c.requires), subst (Within beyond) (sym z) (end-near (begun c.requires)))

pub search-requires : goal.search-requires
search-requires c =
    let z = bits_back c.end_of-z.type_inv ∙ c.end_of-z.ensures in
    ahead-searched (begun c.requires) (rw (c.area_at.ensures, z) at (c.ahead_of-ahead.ensures (axes c.args.block.now) c.requires.1))
    (rw z at (sym c.none_past.ensures ∙ c.if-none_past.false))

pub returns-in-Some : goal.returns-in-Some
returns-in-Some c =
    let z = bits_back c.end_of-z.type_inv ∙ c.end_of-z.ensures in
    let cuts = rw (c.area_at.ensures, z) at (c.ahead_of-ahead.ensures (axes c.args.block.now) c.requires.1) in (
      others-kept (begun c.requires) cuts c.in-Some.ensures.0 c.take_in.ensures,
      edge-taken (begun c.requires) cuts c.in-Some.ensures.0 c.take_in.ensures,
      c.in-Some.ensures.1,
    )

pub returns-in_default : goal.returns-in_default
returns-in_default c =
    let z = bits_back c.end_of-z.type_inv ∙ c.end_of-z.ensures in
    let cuts = rw (c.area_at.ensures, z) at (c.ahead_of-ahead.ensures (axes c.args.block.now) c.requires.1) in
    (λ n flip d h e. e, edge-alone (begun c.requires) cuts c.in_default.ensures.0, c.in_default.ensures.1)
