-- `pair::pair_forbids` meets its contract: the test passes in each dimension past the sheet's. Assumes nothing.
use mathlib.Core.Path.{◌≡◌, ap, ◌∙◌}
use mathlib.Core.Logic.{⊎_elim}
use mathlib.Core.Bool.{Bool, ◌||◌}
use Prim.Native.Nat.{ℕ, ◌≤◌}
use native.Mathlib.Omega.{arith}
use lib.Dec.{leb}
use borrow.Author.Rules.{rules}
use borrow.Author.Tests.{tests, leb-true, le-leb}
use Rattle.integers.specs.Below.{all_below}
use Rattle.integers.proofs.Booleans.{both_ways, or-true, or_left, or_right}
use Rattle.integers.proofs.Below.{below_or, all-at, at_all}
use Rattle.integers.proofs.Scans.{all_in_range}
use Rattle.points.specs.Area.{coordinates}
use Rattle.forbid.specs.Pair.{solids_forbid}
use Rattle.forbid.proofs.Solids.{in_side}
use Rattle.forbid.proofs.pair.pair_forbids.Goals as goal

-- tests below n of which those from k on pass
all-past : (f : ℕ → Bool) {k n : ℕ} → k ≤ n → all_below n (λ d. leb k d || f d) ≡ all_below k f
all-past f {k} {n} h = both_ways _ _
    (λ t. at_all (λ d l. ⊎_elim (λ e. absurd (let p : k ≤ d = leb-true k d e in omega arith)) (λ e. e)
    (or-true (all-at (λ d. leb k d || f d) t d (omega arith)))))
    (λ t. at_all (λ d l. ⊎_elim (λ b. or_right (leb k d) (all-at f t d b)) (λ b. or_left (f d) (le-leb k d b)) (below_or d k)))

pub returns : goal.returns
unfolding solids_forbid
returns c =
    let a = c.args in
    let f = λ (d : ℕ). in_side a.block.now a.table.now a.outline.now a.pair d a.p in
    let few = c.requires.accepted.head.few_dims in
    all_in_range coordinates (λ d. leb c.dims_of-k.result d || f d) _ _ _ c.all.ensures.ran (search rules) (λ x b q k. search (rules, tests))
    ∙ all-past f (omega (arith, few, c.dims_of-k.ensures)) ∙ ap (λ (n : ℕ). all_below n f) c.dims_of-k.ensures
