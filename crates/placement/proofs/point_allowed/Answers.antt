-- `placement::point_allowed` meets its contract: a refusal is handed on, and otherwise the checks leave what `stands` asks. Assumes nothing.
use mathlib.Core.Path.{◌≡◌, sym, ap, ap₂, ◌∙◌, subst}
use mathlib.Core.List.{List}
use Prim.Native.Nat.{ℕ}
use lib.IntN.{ℤ, nat_abs}
use mir.Syntax.{w64}
use mir.Val.{to_z, of_z}
use mir.Facts.{to_z-of_z}
use Rattle.std.proofs.Common.{rules}
use Rattle.std.specs.Prelude.{Ok}
use Rattle.integers.specs.Integer.{nat}
use Rattle.integers.proofs.Machine.{cast_ok}
use Rattle.sheet.specs.Allowed.{allowed}
use Rattle.sheet.specs.Accepted.{Boxed}
use Rattle.sheet.specs.Refusal.{refusal_shape}
use Rattle.sheet.proofs.Accepted.{accepted-head, accepted-rows, accepted-block, accepted-table}
use Rattle.sheet.proofs.Answer.{answered, passed, refused}
use Rattle.words.proofs.Reading.{cast-nat}
use Rattle.accept.proofs.Numbers.{row_upto}
use Rattle.accept.proofs.Shapes.{ShapeAsked, shape-asked}
use Rattle.placement.proofs.point_allowed.Goals as goal
use Rattle.placement.proofs.point_allowed.Goals.{In_ok-check_shape}

module _ (e : In_ok-check_shape) where
  abbrev block : List ℤ
  block = e.args.block.now

  abbrev t : List ℤ
  t = e.args.table.now

  no-refusal : refusal_shape block t e.args.row e.args.shape ≡ 0
  no-refusal =
      let f = e.ranges in
      passed (refusal_shape block t e.args.row e.args.shape) _
      (simp (to_z-of_z f.row, to_z-of_z f.shape) at e.check_shape.ensures) e.in_ok-check_shape.was

  asks : ShapeAsked block t e.args.row e.args.shape
  asks = shape-asked block t e.args.row e.args.shape no-refusal

  row_is : nat_abs (to_z w64 (of_z w64 e.args.row)) ≡ nat e.args.row
  row_is = cast-nat e.args.row e.ranges.row.sfits asks.row_in.count

  shape_is : nat_abs (to_z w64 (of_z w64 e.args.shape)) ≡ nat e.args.shape
  shape_is = cast-nat e.args.shape e.ranges.shape.sfits asks.shape_in

pub returns-in_err-check_shape : goal.returns-in_err-check_shape
returns-in_err-check_shape c =
    let f = c.ranges in
    refused (refusal_shape c.args.block.now c.args.table.now c.args.row c.args.shape) _ _
    (simp (to_z-of_z f.row, to_z-of_z f.shape) at c.check_shape.ensures) c.in_err-check_shape.was (search rules)

pub overflow_cast-row : goal.overflow_cast-row
overflow_cast-row c = let n = (asks c).row_in.count in cast_ok n.from n.upto tt tt

pub row_place-i-requires : goal.row_place-i-requires
row_place-i-requires c =
    let a = asks c in (
      accepted-head (block c) (t c) a.accepted,
      accepted-rows (block c) (t c) a.accepted,
      rw (row_is c) (row_upto a.row_in),
    )

pub draw-requires : goal.draw-requires
draw-requires c = let e = c.before.before in accepted-block (block e) (t e) (asks e).accepted

pub overflow_cast-shape : goal.overflow_cast-shape
overflow_cast-shape c = let n = (asks c.before.before.before.before).shape_in in cast_ok n.from n.upto tt tt

pub stands-requires : goal.stands-requires
stands-requires c =
    let e = c.before.before.before.before in
    let a = asks e in
    record {
      accepted = accepted-block (block e) (t e) a.accepted;
      table = accepted-table (block e) (t e) a.accepted;
      outline = c.draw.ensures;
      row = c.row_place-i.ensures.0;
      shape = subst (Boxed (block e)) (sym (shape_is e)) a.boxed;
    }

pub returns : goal.returns
returns c =
    let e = c.before.before.before.before.before in
    ap Ok (c.stands.ensures ∙ ap₂ (λ (i s : ℕ). allowed (block e) (t e) i s e.args.p) (c.row_place-i.ensures.1 ∙ row_is e) (shape_is e))
    ∙ sym (answered _ (no-refusal e))
