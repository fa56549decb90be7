-- `nearby::gather::add_rule` meets its contract: a rule that does not count, or does not keep the row apart, adds nothing. Assumes nothing.
use mathlib.Core.Path.{◌≡◌, sym, ◌∙◌}
use mathlib.Core.Bool.{Bool, true, ◌&&◌}
use mathlib.Core.List.{List}
use Prim.Native.Nat.{ℕ}
use lib.IntN.{ℤ}
use Rattle.integers.proofs.Booleans.{clash, and-true, fails}
use Rattle.sheet.specs.Layout.{is_non_overlap, names_row}
use Rattle.forbid.specs.Region.{rule_forbids, rows_forbid}
use Rattle.nearby.proofs.Gathers.{grows_none, grows-by}
use Rattle.nearby.proofs.gather.add_rule.Goals as goal

-- what a rule that counts forbids; the rule is told by its place
parts : (block table : List ℤ) (counts : Bool) (i s : ℕ) {n : ℕ} (r : ℕ) (p : List ℤ) → n ≡ r → (counts && rule_forbids block table i s r p) ≡ true
    → ((is_non_overlap block n && names_row block n i) ≡ true) × (rows_forbid block table n i s p ≡ true)
unfolding rule_forbids
parts block table counts i s r p e h = rw e (and-true (and-true {a = counts} h).1)

pub returns-then-not-is_non_overlap_of : goal.returns-then-not-is_non_overlap_of
returns-then-not-is_non_overlap_of c =
    grows_none (λ p. fails (λ h. clash (parts _ _ _ _ _ _ p c.rule_place-rule.ensures.1 h).0
    (sym c.is_non_overlap_of.ensures ∙ c.if-not-is_non_overlap_of.true)))

pub returns : goal.returns
returns c = grows-by (λ p h. (parts _ _ _ _ _ _ p c.rule_place-rule.ensures.1 h).1) c.add_rows.ensures
