-- `splits::pick::split_value` meets its contract: the least value of a set, and the middle of a range. Assumes nothing.
use mathlib.Core.Path.{◌≡◌, refl, ap, ◌∙◌}
use Prim.Native.Nat.{ℕ, ◌-◌}
use lib.IntN.{ℤ}
use mir.Syntax.{w64}
use mir.Val.{to_z, of_z}
use Rattle.integers.proofs.Ints.{ints}
use Rattle.integers.proofs.Machine.{within_by}
use Rattle.sheet.specs.Layout.{high}
use Rattle.sheet.specs.Cuts.{number}
use Rattle.words.proofs.Reading.{read_back}
use Rattle.splits.proofs.Values.{number-near, open-near, high-open, high-past}
use Rattle.splits.proofs.pick.split_value.Lts as lts
use Rattle.splits.proofs.pick.split_value.Reads as reads
use Rattle.splits.proofs.pick.split_value.Tie as tie
use Rattle.splits.proofs.pick.split_value.Goals as goal

abbrev Start : Type 0
Start = lts.Start tie.the-claims reads.Pre reads.Post

-- the range's ends
module _ (c : goal.After-high_of) where
  abbrev s : Start
  s = c.before.before.before.before

  abbrev top : ℤ
  top = high s.args.block.now s.args.table.now s.args.row (s.args.column - 1)

  lo : to_z w64 (of_z w64 c.number-low.result)
      ≡ number s.args.block.now s.args.table.now s.args.row s.args.column
  lo = let n = c.number-low in read_back n.ensures.0 n.type_inv

  hi : to_z w64 (of_z w64 c.high_of.result) ≡ top
  hi =
      read_back
      (c.high_of.ensures
      ∙ ap (λ (i : ℕ). high s.args.block.now s.args.table.now i (s.args.column - 1)) c.row_place-i.ensures.1)
      c.high_of.type_inv

pub halfway-requires : goal.halfway-requires
halfway-requires c =
    let x = s c in
    let a = x.args in
    let ne = c.if-column-eq0.false in
    let open-top = high-open a.block.now a.table.now a.row x.requires.0.table a.column x.requires.0.has ne in (
      rw (lo c, hi c) (high-past a.block.now a.table.now a.row a.column ne x.requires.1),
      within_by (lo c) (number-near a.block.now a.table.now x.requires.0.table a.row a.column x.requires.0.has),
      within_by (hi c) (open-near a.block.now a.table.now x.requires.0.table a.row a.column x.requires.0.has (top c) open-top),
    )

pub returns : goal.returns
returns c =
    let h = c.before in
    let x = s h in
    let a = x.args in
    let e = c.halfway.ensures in
    let back = read_back {z = c.halfway.result} refl c.halfway.type_inv in
    record {
      has = x.requires.0.has;
      from = omega (ints, e.0, lo h, back);
      next = top h;
      opens = high-open a.block.now a.table.now a.row x.requires.0.table a.column x.requires.0.has h.if-column-eq0.false;
      past = omega (ints, e.1, hi h, back);
    }
