-- `layout::find::find` and `layout::find::find_upto`, which call each other, meet their contracts: Invariants.antt has the measures. What a
-- settled table and a part of it keep are the laws of proofs/Searches and of the splits. Assumes nothing.
use mathlib.Core.Path.{◌≡◌, refl, sym, ap, ◌∙◌, subst}
use mathlib.Core.List.{List}
use mathlib.Core.Option.{some}
use Prim.Native.Nat.{ℕ, ◌+◌, ◌*◌, ◌<◌}
use native.Mathlib.Omega.{arith}
use lib.IntN.{ℤ}
use Rattle.integers.proofs.Booleans.{clash}
use Rattle.sheet.specs.Settle.{extent, settle_of}
use Rattle.sheet.specs.FirstLayout.{Places}
use Rattle.sheet.proofs.Accepted.{accepted-head, accepted-table}
use Rattle.sheet.proofs.Places.{settle-falls}
use Rattle.splits.specs.declared.Split.{Split}
use Rattle.splits.specs.Splits.{OnNumber, upto_value, past_value}
use Rattle.splits.proofs.Parts.{part-extent, upto-falls, past-falls, split-near}
use Rattle.layout.specs.Search.{Small, NoPlacement}
use Rattle.layout.proofs.Searches.{Keeps, keeps-start, keeps-settled, none-settled, fixed-settled, keeps-past}
use Rattle.layout.proofs.Searches.{small-part, small-short, small-room, split-on, split-part}
use Rattle.layout.proofs.find.+find_find_upto.Goals as goal

-- ---- find

-- u is the table of the turn, v what settling left of it
kept-at : {block given u v : List ℤ} → Keeps block given u → settle_of block u ≡ some v → Keeps block given v
kept-at {block} k found = keeps-settled block k found

small-at : {block given u v : List ℤ} → Small block given → Keeps block given u → settle_of block u ≡ some v → Small block v
small-at {block} few k found = small-part block few (keeps-settled block k found).part

pub find-returns : goal.find-returns
find-returns t c =
    record {
      yes = λ e. clash e refl;
      no = λ _. none-settled c.args.block.now c.loop-split_row.invariant.0 (c.settled.ensures.no c.loop-split_row-test.false);
    }

pub find-pick-requires : goal.find-pick-requires
find-pick-requires t c =
    let w = small-at c.requires.0 c.loop-split_row.invariant.0 (c.settled.ensures.yes c.loop-split_row-test.true) in
    (accepted-head _ _ w.accepted, accepted-table _ _ w.accepted, w.few)

pub find-returns-in_default : goal.find-returns-in_default
find-returns-in_default t c =
    let f = c.settled.ensures.yes c.loop-split_row-test.true in
    record {
      yes = λ _. fixed-settled c.args.block.now c.loop-split_row.invariant.0 f c.in_default.ensures;
      no = λ e. clash refl e;
    }

pub find-find_upto-requires : goal.find-find_upto-requires
find-find_upto-requires t c =
    let f = c.settled.ensures.yes c.loop-split_row-test.true in
    let less = part-extent c.requires.0.accepted (kept-at c.loop-split_row.invariant.0 f).part in
    (omega (arith, c.decreases, less), (small-at c.requires.0 c.loop-split_row.invariant.0 f, c.in-Some.ensures))

pub find-returns-then-find_upto : goal.find-returns-then-find_upto
find-returns-then-find_upto t c =
    let k = kept-at c.loop-split_row.invariant.0 (c.settled.ensures.yes c.loop-split_row-test.true) in
    record { yes = λ _. k.part.places c.find_upto.new.table (c.find_upto.ensures.yes c.if-find_upto.true); no = λ e. clash refl e }

pub find-keep_past-requires : goal.find-keep_past-requires
find-keep_past-requires t c =
    let block = c.args.block.now in
    let s = c.in-Some.s in
    let w = small-at c.requires.0 c.loop-split_row.invariant.0 (c.settled.ensures.yes c.loop-split_row-test.true) in (
      subst (λ (w : List ℤ). OnNumber block w s.row s.column) (sym (c.find_upto.ensures.same c.if-find_upto.false))
          (split-on block w.accepted c.in-Some.ensures),
      split-near block c.settled.new.table w.accepted _ _ _ c.in-Some.ensures,
    )

-- the values past the split, of the table as it was
past-left : (block : List ℤ) {v x y : List ℤ} (s : Split) → y ≡ past_value block x s.row s.column s.at → x ≡ v
    → y ≡ past_value block v s.row s.column s.at
past-left block s e same = e ∙ ap (λ (w : List ℤ). past_value block w s.row s.column s.at) same

pub find-loop-split_row-smaller : goal.find-loop-split_row-smaller
find-loop-split_row-smaller t c =
    let block = c.args.block.now in
    let u = c.loop-split_row.table in
    let v = c.settled.new.table in
    let f = c.settled.ensures.yes c.loop-split_row-test.true in
    let w = small-at c.requires.0 c.loop-split_row.invariant.0 f in
    let less = past-falls block v w.accepted _ _ _ c.in-Some.ensures in
    let shrunk = settle-falls block u c.loop-split_row.invariant.0.part.accepted v f in
    subst (λ (w : List ℤ). extent block w < extent block u)
    (sym (past-left block c.in-Some.s c.keep_past.ensures (c.find_upto.ensures.same c.if-find_upto.false))) (omega (arith, less, shrunk))

pub find-loop-split_row-preserved : goal.find-loop-split_row-preserved
find-loop-split_row-preserved t c =
    let block = c.args.block.now in
    let f = c.settled.ensures.yes c.loop-split_row-test.true in
    let w = small-at c.requires.0 c.loop-split_row.invariant.0 f in
    let split = c.in-Some.ensures in
    let past = keeps-past block (kept-at c.loop-split_row.invariant.0 f) _ _ _ split (c.find_upto.ensures.no c.if-find_upto.false) in (
      subst (Keeps block c.args.table.now)
          (sym (past-left block c.in-Some.s c.keep_past.ensures (c.find_upto.ensures.same c.if-find_upto.false))) past,
      record { from = split.has.from; upto = omega (arith, split.has.upto, w.few) },
    )

-- ---- find_upto

pub find_upto-slice_bounds-words-end : goal.find_upto-slice_bounds-words-end
find_upto-slice_bounds-words-end t c = small-short c.args.block.now c.requires.0

pub find_upto-slice_bounds-part-end : goal.find_upto-slice_bounds-part-end
find_upto-slice_bounds-part-end t c = sym (small-room c.args.block.now c.requires.0)

pub find_upto-copy_upto-requires : goal.find_upto-copy_upto-requires
find_upto-copy_upto-requires t c = (split-on _ c.requires.0.accepted c.requires.1, small-room c.args.block.now c.requires.0)

pub find_upto-find-requires : goal.find_upto-find-requires
find_upto-find-requires t c =
    let b = c.args.block.now in
    let s = c.requires in
    let at = c.args.s in
    let less = upto-falls b c.args.table.now s.0.accepted at.row at.column at.at s.1 in
    let q : 2 * extent b (upto_value b c.args.table.now at.row at.column at.at) + 1 < t = omega (arith, less, c.decreases) in (
      subst (λ (w : List ℤ). 2 * extent b w + 1 < t) (sym c.copy_upto.ensures) q,
      (
        small-part b s.0 (split-part b s.0.accepted s.1 c.copy_upto.ensures),
        record { from = s.1.has.from; upto = omega (arith, s.1.has.upto, s.0.few) },
      ),
    )

pub find_upto-returns-then-not-find : goal.find_upto-returns-then-not-find
find_upto-returns-then-not-find t c =
    record {
      yes = λ e. clash e refl;
      no = λ _. subst (NoPlacement c.args.block.now) c.copy_upto.ensures (c.find.ensures.no c.if-not-find.true);
      same = λ _. refl;
    }

pub find_upto-copy_from_slice-requires : goal.find_upto-copy_from_slice-requires
find_upto-copy_from_slice-requires t c =
    let part = split-part _ c.requires.0.accepted c.requires.1 c.copy_upto.ensures in
    sym ((part.places _ (c.find.ensures.yes c.if-not-find.false)).inside.as_long)

pub find_upto-returns : goal.find_upto-returns
find_upto-returns t c =
    let part = split-part _ c.requires.0.accepted c.requires.1 c.copy_upto.ensures in
    record {
      yes = λ _. subst (Places c.args.block.now c.args.table.now) (sym c.copy_from_slice.ensures.after)
          (part.places _ (c.find.ensures.yes c.if-not-find.false));
      no = λ q. clash refl q;
      same = λ q. clash refl q;
    }
