-- `outline::rules::count_rules` meets its contract: the set is written whole, and no word before it changes. Assumes nothing.
use mathlib.Core.Path.{sym, ap, ◌∙◌, subst}
use mathlib.Core.List.{List}
use native.Mathlib.Omega.{arith}
use lib.IntN.{ℤ, pos}
use lib.Seq.{get_or-set_same}
use Rattle.integers.specs.Words.{word}
use Rattle.outline.specs.Places.{rules_at, SameTo}
use Rattle.outline.proofs.Runs.{same_none, same_set}
use Rattle.outline.proofs.Counting.{rules-of-set}
use Rattle.outline.proofs.rules.count_rules.Goals as goal

pub returns : goal.returns
returns c =
    let o = c.args.outline.now in
    let set = c.counted-set.result in (
      subst (SameTo rules_at o) (sym c.put.ensures) (same_set rules_at (pos set) (same_none rules_at o) (omega arith)),
      rules-of-set c.requires.head c.counted-set.ensures
          (ap (λ (o : List ℤ). word o rules_at) c.put.ensures ∙ get_or-set_same o rules_at (pos set) (pos 0) (omega arith)),
    )
