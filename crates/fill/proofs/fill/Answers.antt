-- `fill::fill` meets its contract: the checks in their order, and what each leaves to the next. Assumes nothing.
use mathlib.Core.Path.{◌≡◌, sym, ap, ap₂, ◌∙◌}
use mathlib.Core.Bool.{false}
use Prim.Native.Nat.{ℕ, ◌≤◌}
use native.Mathlib.Omega.{arith}
use mir.Facts.{to_z-of_z}
use Rattle.std.proofs.Common.{rules}
use Rattle.std.specs.Prelude.{Ok}
use Rattle.sheet.specs.Fill.{rule_asked, room_cells, covered_cells, permille}
use Rattle.sheet.specs.Refusal.{◌when◌, no_fill_rule, bad_cells, refusal_placement}
use Rattle.sheet.specs.Answer.{answer}
use Rattle.sheet.proofs.Accepted.{accepted-block, accepted-table}
use Rattle.sheet.proofs.Answer.{passed}
use Rattle.sheet.proofs.Cells.{covered-upto}
use Rattle.placement.proofs.Verdicts.{checked}
use Rattle.fill.proofs.Rooms.{found}
use Rattle.fill.proofs.Answers.{answer-placement, answer-13, answer-14, answer-15, answer-of}
use Rattle.fill.proofs.fill.Goals as goal
use Rattle.fill.proofs.fill.Goals.{In_ok-check_placement, In_ok-r, In_ok-n, After-cells_of, After-all_good}

-- ---- 2 to 8 and 12 do not apply
none : (c : In_ok-check_placement) → refusal_placement c.args.block.now c.args.table.now ≡ 0
none c = passed _ _ c.check_placement.ensures c.in_ok-check_placement.was

-- ---- nor does 13
asked : (c : In_ok-r) → (c.in_ok-r.r.number ≡ rule_asked c.args.rule) × (no_fill_rule c.args.block.now c.args.rule ≡ false)
asked c =
    let e = c.in_ok-r.ensures in
    let f = simp (to_z-of_z c.ranges.rule) at e in
    (f.1, f.2)

-- the number of cells, of the rule asked about
told : (c : After-cells_of) → let r = rule_asked c.args.rule in
    c.cells_of.result ≡ answer (14 when bad_cells c.args.block.now r) (room_cells c.args.block.now r)
told c = c.cells_of.ensures ∙ ap (λ (r : ℕ). answer (14 when bad_cells c.args.block.now r) (room_cells c.args.block.now r)) (asked c.before).0

-- ---- nor 14
cells : (c : In_ok-n) → let b = c.args.block.now in let r = rule_asked c.args.rule in let n = c.in_ok-n.n in
    (bad_cells b r ≡ false) × (n ≡ room_cells b r) × (1 ≤ n) × (n ≤ 4096)
cells c = found c.args.block.now (rule_asked c.args.rule) (told c.before.before) c.in_ok-n.was

pub returns-in_err-check_placement : goal.returns-in_err-check_placement
returns-in_err-check_placement c = answer-placement _ _ _ _ c.check_placement.ensures c.in_err-check_placement.was (search rules)

pub rule_asked-requires : goal.rule_asked-requires
rule_asked-requires c = accepted-block _ _ (checked _ _ (none c)).0

pub returns-in_err-r : goal.returns-in_err-r
returns-in_err-r c =
    let e = c.in_err-r.ensures in
    let f = simp (to_z-of_z c.ranges.rule) at e in
    answer-13 _ _ _ (passed _ _ c.check_placement.ensures c.in_ok-check_placement.was) f.1 f.0 (search rules)

pub cells_of-requires : goal.cells_of-requires
cells_of-requires c = c.in_ok-r.ensures.0

pub returns-in_err-n : goal.returns-in_err-n
returns-in_err-n c =
    let x = c.before.before.before in
    answer-14 _ _ _ (none x.before.before.before.before) (asked x.before).1 _ (told x) c.in_err-n.was (search rules)

pub all_good-requires : goal.all_good-requires
all_good-requires c =
    let w = checked _ _ (passed _ _ c.check_placement.ensures c.in_ok-check_placement.was) in
    record {
      accepted = accepted-block _ _ w.0;
      table = accepted-table _ _ w.0;
      outline = c.draw.ensures;
      all_fixed = w.1;
    }

-- ---- what 14 left
module _ (c : After-all_good) where
  abbrev in_n : In_ok-n
  in_n = c.before.before.before.before

  abbrev in_r : In_ok-r
  in_r = in_n.before.before.before

  abbrev in_placement : In_ok-check_placement
  in_placement = in_r.before.before.before

pub returns-then-not-all_good : goal.returns-then-not-all_good
returns-then-not-all_good c =
    let x = c.before in
    answer-15 _ _ _ (none (in_placement x)) (asked (in_r x)).1 (cells (in_n x)).0 (sym c.all_good.ensures ∙ c.if-not-all_good.true)

pub covered_cells-c-requires : goal.covered_cells-c-requires
covered_cells-c-requires c =
    let x = c.before.before in
    let w = cells (in_n x) in
    let v = checked _ _ (none (in_placement x)) in
    let n = w.1 ∙ ap (room_cells _) (sym (asked (in_r x)).0) in (
      record {
        room = c.in_ok-r.ensures.0;
        table = accepted-table _ _ v.0;
        all_fixed = v.1;
        all_good = sym c.all_good.ensures ∙ c.if-not-all_good.false;
        some_cells = rw (← n) w.2;
        few_cells = rw (← n) w.3;
      },
      c.draw.ensures,
      n,
    )

covered-is : (c : goal.After-covered_cells-c) → c.covered_cells-c.result ≡ covered_cells c.args.block.now c.args.table.now (rule_asked c.args.rule)
covered-is c = c.covered_cells-c.ensures ∙ ap (covered_cells _ _) (asked (in_r c.before.before.before)).0

pub permille-requires : goal.permille-requires
permille-requires c =
    let w = cells (in_n c.before.before.before) in
    (omega (arith, covered-is c, covered-upto c.args.block.now c.args.table.now (rule_asked c.args.rule), w.1, w.3), w.2, w.3)

pub returns : goal.returns
returns c =
    let x = c.before.before.before.before in
    let w = cells (in_n x) in
    let n = covered-is c.before in
    ap₂ (λ (c p : ℕ). Ok (record { cells = c; permille = p })) n (c.permille.ensures ∙ ap₂ permille n w.1)
    ∙ answer-of _ _ _ (none (in_placement x)) (asked (in_r x)).1 w.0 (sym c.all_good.ensures ∙ c.if-not-all_good.false)
