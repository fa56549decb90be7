-- `capi::zk_fill` meets its contract: the finding of what `fill::fill` answers, whose numbers are small. Assumes nothing.
use mathlib.Core.Path.{◌≡◌, refl, sym, ap, ◌∙◌, subst}
use mathlib.Core.List.{List}
use Prim.Native.Nat.{ℕ, zero, suc, ◌^◌, ◌<◌}
use native.Mathlib.Omega.{arith}
use lib.IntN.{ℤ}
use mir.Facts.{to_z-of_z}
use Rattle.std.specs.Prelude.{Result, IfOk}
use Rattle.sheet.specs.Fill.{rule_asked, room_cells, covered_cells, permille}
use Rattle.sheet.specs.Refusal.{refusal_fill}
use Rattle.sheet.specs.Answer.{answer}
use Rattle.sheet.specs.declared.Refusal.{Refusal}
use Rattle.sheet.specs.declared.Share.{Share}
use Rattle.sheet.proofs.Cells.{covered-upto}
use Rattle.sheet.proofs.Fill.{fill-asked}
use Rattle.sheet.proofs.Rounding.{figure-upto}
use Rattle.capi.specs.Findings.{share_finding}
use Rattle.capi.proofs.zk_fill.Goals as goal

abbrev Small : Result Share Refusal → Type 0
Small q = IfOk q (λ s. (s.cells < 2 ^ 63) × (s.permille < 2 ^ 63))

module _ (block t : List ℤ) (rule : ℤ) where
  abbrev found : Share
  found = record {
    cells = covered_cells block t (rule_asked rule);
    permille = permille (covered_cells block t (rule_asked rule)) (room_cells block (rule_asked rule));
  }

  small-at : (g : ℕ) → refusal_fill block t rule ≡ g → Small (answer g found)
  unfolding answer
  small-at zero e =
      let a = fill-asked block t rule e in
      let c = covered-upto block t (rule_asked rule) in
      let f = figure-upto (covered-upto block t (rule_asked rule)) a.some_cells in
      (omega (arith, c, a.few_cells), omega (arith, f))
  small-at (suc g) e = tt

pub share_finding-requires : goal.share_finding-requires
share_finding-requires c =
    subst Small (sym (simp (to_z-of_z c.ranges.rule) at c.fill.ensures)) (small-at c.args.block.now c.args.table.now c.args.rule _ refl)

pub returns : goal.returns
returns c =
    c.share_finding.ensures ∙ ap share_finding (simp (to_z-of_z c.ranges.rule) at c.fill.ensures)
