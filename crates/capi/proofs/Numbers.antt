-- The findings of refused calls are the refusals' numbers, as the definitions count them: no number is past 16 (`refusal-most` ..), and a finding of
-- one that is not is that number (`refused` ..). Assumes nothing.
use mathlib.Core.Path.{◌≡◌, refl, ap}
use mathlib.Core.Bool.{Bool, true, false}
use mathlib.Core.List.{List}
use Prim.Native.Nat.{ℕ, zero, suc, ◌≤◌}
use native.Mathlib.Omega.{arith}
use lib.IntN.{ℤ, pos}
use Rattle.std.specs.Prelude.{Option}
use Rattle.sheet.specs.Fill.{rule_asked}
use Rattle.sheet.specs.Refusal.{◌when◌, ◌else◌, bad_head, bad_counts, bad_block_length, bad_table_length, bad_box, bad_rule, bad_row, no_such_row}
use Rattle.sheet.specs.Refusal.{no_such_shape, no_such_dim, no_box_dim, not_fixed, no_fill_rule, bad_cells, not_good, too_many_rows, refusal}
use Rattle.sheet.specs.Refusal.{refusal_row, refusal_shape, refusal_dim, refusal_placement, refusal_relation, refusal_fill, refusal_layout}
use Rattle.sheet.specs.Answer.{answer}
use Rattle.sheet.specs.declared.Allen.{Allen}
use Rattle.sheet.specs.declared.Share.{Share}
use Rattle.sheet.proofs.Answer.{number_of_ground}
use Rattle.capi.specs.Findings.{finding, refusal_finding, no_bound, bound_finding, standing_finding, share_finding}
use Rattle.capi.specs.declared.BoundFinding.{BoundFinding}

-- ---- no number is past 16
when-most : (n : ℕ) (b : Bool) → n ≤ 16 → (n when b) ≤ 16
unfolding ◌when◌
when-most n true h = h
when-most n false h = omega arith

else-most : (g h : ℕ) → g ≤ 16 → h ≤ 16 → (g else h) ≤ 16
unfolding ◌else◌
else-most zero h p q = q
else-most (suc g) h p q = p

module _ (block t : List ℤ) where
  pub refusal-most : refusal block t ≤ 16
  unfolding refusal
  refusal-most =
      else-most _ _ (when-most 2 (bad_head block) (omega arith))
      (else-most _ _ (when-most 3 (bad_counts block) (omega arith))
      (else-most _ _ (when-most 4 (bad_block_length block) (omega arith))
      (else-most _ _ (when-most 5 (bad_table_length block t) (omega arith))
      (else-most _ _ (when-most 6 (bad_box block) (omega arith))
      (else-most _ _ (when-most 7 (bad_rule block t) (omega arith)) (when-most 8 (bad_row block t) (omega arith)))))))

  pub row-most : (row : ℤ) → refusal_row block t row ≤ 16
  unfolding refusal_row
  row-most row = else-most _ _ refusal-most (when-most 9 (no_such_row block t row) (omega arith))

  pub shape-most : (row shape : ℤ) → refusal_shape block t row shape ≤ 16
  unfolding refusal_shape
  shape-most row shape = else-most _ _ (row-most row) (when-most 10 (no_such_shape block t row shape) (omega arith))

  pub dim-most : (row shape dim : ℤ) → refusal_dim block t row shape dim ≤ 16
  unfolding refusal_dim
  dim-most row shape dim = else-most _ _ (shape-most row shape) (when-most 11 (no_such_dim block t dim) (omega arith))

  pub placement-most : refusal_placement block t ≤ 16
  unfolding refusal_placement
  placement-most = else-most _ _ refusal-most (when-most 12 (not_fixed block t) (omega arith))

  pub relation-most : (row other dim : ℤ) → refusal_relation block t row other dim ≤ 16
  unfolding refusal_relation
  relation-most row other dim =
      else-most _ _ (row-most row)
      (else-most _ _ (when-most 9 (no_such_row block t other) (omega arith))
      (else-most _ _ (when-most 11 (no_box_dim block dim) (omega arith)) (when-most 12 (not_fixed block t) (omega arith))))

  pub fill-most : (rule : ℤ) → refusal_fill block t rule ≤ 16
  unfolding refusal_fill
  fill-most rule =
      else-most _ _ placement-most
      (else-most _ _ (when-most 13 (no_fill_rule block rule) (omega arith))
      (else-most _ _ (when-most 14 (bad_cells block (rule_asked rule)) (omega arith)) (when-most 15 (not_good block t) (omega arith))))

  pub layout-most : refusal_layout block t ≤ 16
  unfolding refusal_layout
  layout-most = else-most _ _ refusal-most (when-most 16 (too_many_rows block t) (omega arith))

-- ---- the finding is the number; of a check alone 0 too
pub checked : (g : ℕ) → g ≤ 16 → refusal_finding (answer g tt) ≡ pos g
unfolding refusal_finding answer
checked zero h = refl
checked (suc g) h = ap pos (number_of_ground g h)

module _ (g : ℕ) (h : suc g ≤ 16) where
  pub refused : (b : Bool) → finding (answer (suc g) b) ≡ pos (suc g)
  unfolding finding answer
  refused b = ap pos (number_of_ground g h)

  pub refused-bound : (o : Option ℤ) → bound_finding (answer (suc g) o) ≡ no_bound (pos (suc g))
  unfolding bound_finding answer
  refused-bound o = ap (λ (n : ℕ). no_bound (pos n)) (number_of_ground g h)

  pub refused-standing : (x : Allen) → (standing_finding (answer (suc g) x)).finding ≡ pos (suc g)
  unfolding standing_finding answer
  refused-standing x = ap pos (number_of_ground g h)

  pub refused-share : (s : Share) → (share_finding (answer (suc g) s)).finding ≡ pos (suc g)
  unfolding share_finding answer
  refused-share s = ap pos (number_of_ground g h)
