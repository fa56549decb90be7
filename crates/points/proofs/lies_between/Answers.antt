-- `points::lies_between` meets its contract: the test passes in each dimension from k on, and below k it is the area's. Assumes nothing.
use mathlib.Core.Path.{◌≡◌, ◌∙◌}
use mathlib.Core.Bool.{Bool, ◌||◌}
use mathlib.Core.Logic.{⊎_elim}
use Prim.Native.Nat.{ℕ, ◌≤◌}
use native.Mathlib.Omega.{arith}
use lib.Dec.{leb}
use borrow.Author.Tests.{leb-true, le-leb}
use Rattle.std.proofs.Common.{rules, tests}
use Rattle.integers.specs.Below.{all_below}
use Rattle.integers.specs.Words.{word}
use Rattle.integers.proofs.Booleans.{both_ways, or-true, or_left, or_right}
use Rattle.integers.proofs.Below.{below_or, all-at, at_all}
use Rattle.integers.proofs.Scans.{all_in_range}
use Rattle.points.specs.Area.{coordinates, area_by, in_at, in_area}
use Rattle.points.proofs.lies_between.Goals as goal

-- tests that pass from k on make no difference
all-past : (f : ℕ → Bool) {k n : ℕ} → k ≤ n → all_below n (λ d. leb k d || f d) ≡ all_below k f
all-past f {k} {n} h = both_ways _ _
    (λ t. at_all (λ d l. ⊎_elim (λ e. absurd (let p : k ≤ d = leb-true k d e in omega arith)) (λ e. e)
    (or-true (all-at (λ d. leb k d || f d) t d (omega arith)))))
    (λ t. at_all (λ d l. ⊎_elim (λ b. or_right (leb k d) (all-at f t d b)) (λ b. or_left (f d) (le-leb k d b)) (below_or d k)))

pub returns : goal.returns
unfolding in_area in_at
returns c =
    let a = c.args in
    let area = area_by a.low.now a.high.now in
    all_in_range coordinates (λ d. leb a.k d || in_at area d (word a.p d)) _ _ _ c.all.ensures.ran (search rules) (λ x b q k. search (rules, tests))
    ∙ all-past (λ d. in_at area d (word a.p d)) c.requires.2
