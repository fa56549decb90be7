-- `nearby::known::forget` meets its contract: the first word counts no area. Assumes nothing.
use mathlib.Core.Path.{ap, ◌∙◌}
use mathlib.Core.List.{List}
use native.Mathlib.Omega.{arith}
use lib.IntN.{ℤ, pos}
use lib.Seq.{get_or-set_same}
use borrow.Author.Rules.{rules}
use Rattle.integers.specs.Words.{word}
use Rattle.integers.specs.Integer.{nat}
use Rattle.nearby.proofs.Remembered.{counted-by}
use Rattle.nearby.proofs.known.forget.Goals as goal

pub returns : goal.returns
returns c =
    let q = c.put_count.ensures in
    let e = ap (λ (l : List ℤ). word l 0) q ∙ get_or-set_same c.args.known.now 0 (pos 0) (pos 0) (search rules) in
    (counted-by e (omega arith), ap nat e)
