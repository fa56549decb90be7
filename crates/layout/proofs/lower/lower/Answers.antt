-- `layout::lower::lower` meets its contract: each turn leaves less of the excess, and at the end the rest keeps the best's value. Assumes nothing.
use mathlib.Core.Path.{◌≡◌, sym, ap, ap₂, ◌∙◌, subst}
use mathlib.Core.Logic.{⊎_elim}
use mathlib.Core.Bool.{Bool}
use mathlib.Core.List.{List}
use Prim.Native.Nat.{ℕ, suc, ◌≤◌}
use native.Mathlib.Omega.{arith}
use lib.IntN.{ℤ}
use Rattle.sheet.specs.FirstLayout.{number_at}
use Rattle.sheet.proofs.Precedes.{position-number}
use Rattle.splits.specs.declared.Split.{Split}
use Rattle.splits.specs.Splits.{OnNumber, upto_value}
use Rattle.layout.specs.Search.{SettledTo}
use Rattle.layout.specs.Lowering.{Lowering, Lowered, LeastOf, excess}
use Rattle.layout.proofs.Lowers.{lowered-then, lowered-settled, lowered-next}
use Rattle.layout.proofs.Halves.{on-rest, on-best, lowering-start, lowering-on, excess-none, settled-found, settled-excess}
use Rattle.layout.proofs.lower.lower.Goals as goal

pub loop-rest-init : goal.loop-rest-init
loop-rest-init c = lowering-start c.args.block.now c.requires

-- the rest of a turn, settled
module _ {block t b rest best v : List ℤ} {m : ℕ} {r : Bool} (x : Lowering block m t b) (y : Lowered block m t b rest best)
    (s : SettledTo block rest r v) where
  settled : Lowered block m t b v best
  settled = lowered-settled block y (settled-found block (lowering-on block x y) s)

  no-more : excess block m v best ≤ excess block m rest best
  no-more = let w = lowering-on block x y in settled-excess block w (settled-found block w s)

pub excess-requires : goal.excess-requires
excess-requires c = lowering-on c.args.block.now c.requires c.loop-rest.invariant

pub settled-requires : goal.settled-requires
settled-requires c = c.loop-rest.invariant.part.accepted

pub halve-requires : goal.halve-requires
halve-requires c = lowering-on c.args.block.now c.requires (settled c.requires c.loop-rest.invariant c.settled.ensures)

pub loop-rest-smaller : goal.loop-rest-smaller
loop-rest-smaller c =
    let n = no-more c.requires c.loop-rest.invariant c.settled.ensures in
    ⊎_elim (λ e. omega (arith, e, c.excess.ensures, c.loop-rest-test.true)) (λ e. omega (arith, e, n)) c.halve.ensures.less

pub loop-rest-preserved : goal.loop-rest-preserved
loop-rest-preserved c = lowered-then c.args.block.now (settled c.requires c.loop-rest.invariant c.settled.ensures) c.halve.ensures.lowered

pub least_of-requires : goal.least_of-requires
least_of-requires c = on-best c.args.block.now (lowering-on c.args.block.now c.requires c.loop-rest.invariant)

-- the best has the least value, and the rest keeps it
module _ {block t b rest best : List ℤ} {m : ℕ} (x : Lowering block m t b) (y : Lowered block m t b rest best) (s : Split)
    (is : LeastOf block best m s) where
  w : Lowering block m rest best
  w = lowering-on block x y

  on : OnNumber block rest s.row s.column
  on =
      let o = on-rest block w in
      rw (is.row, is.column) (record { head = o.0.head; table = o.0.table; has = position-number block rest m o.1 })

  fixed : excess block m rest best ≤ 0 → {v : List ℤ} → v ≡ upto_value block rest s.row s.column s.at → Lowered block (suc m) t b v best
  unfolding number_at
  fixed none e = rw (e, is.row, is.column, is.least) (lowered-next block y w.below (excess-none block w none))

pub keep_upto-requires : goal.keep_upto-requires
keep_upto-requires c = on c.requires c.loop-rest.invariant c.least_of.result c.least_of.ensures

pub returns : goal.returns
returns c =
    fixed c.requires c.loop-rest.invariant c.least_of.result c.least_of.ensures (omega (arith, c.excess.ensures, c.loop-rest-test.false)) c.keep_upto.ensures
