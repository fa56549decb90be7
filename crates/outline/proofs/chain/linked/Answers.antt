-- `outline::chain::linked` meets its contract: the link is to a box where it is below the number of boxes. Assumes nothing.
use mathlib.Core.Path.{◌≡◌, refl, ap, ◌∙◌}
use mathlib.Core.Bool.{Bool, true, false}
use Prim.Native.Nat.{◌<◌, ◌≤◌}
use native.Mathlib.Omega.{arith}
use lib.IntN.{ℤ, pos}
use lib.Signed.{lt_z}
use Rattle.std.proofs.Common.{MatchOption}
use Rattle.std.specs.Bool.{then_some}
use Rattle.std.proofs.lemmas.List.{get_or_past}
use Rattle.integers.specs.Integer.{nat}
use Rattle.integers.specs.Words.{word}
use Rattle.integers.proofs.Ints.{ints, disjoint}
use Rattle.integers.proofs.Ranges.{nat-abs}
use Rattle.sheet.specs.Accepted.{Count}
use Rattle.points.proofs.Sums.{bits_back}
use Rattle.sheet.specs.Layout.{boxes}
use Rattle.outline.proofs.chain.linked.Goals as goal

-- a link below n is to a box
below : (link n : ℤ) → Count link → (t : Bool) → lt_z link n ≡ t
    → MatchOption (then_some t (nat link)) (nat n ≤ nat link) (λ b. (b ≡ nat link) × (b < nat n))
below link n h true e = (refl, omega (ints, disjoint link, disjoint n))
below link n h false e = omega (ints, disjoint link, disjoint n)

pub returns-in_err-n : goal.returns-in_err-n
unfolding boxes
returns-in_err-n c =
    let none : nat (word c.args.block.now 1) ≡ 0 = ap nat (get_or_past c.args.block.now 1 (pos 0) c.in_err-n.ensures.lookup.3) in
    rw c.from_residual.ensures (omega (arith, none))

pub returns : goal.returns
unfolding boxes
returns c =
    let link = bits_back {z = c.args.link} (omega arith) in
    let n = bits_back {z = c.in_ok-n.field-0.now} (omega arith) ∙ c.in_ok-n.ensures.lookup.3.1 (pos 0) in
    rw c.then_some.ensures (rw (n, link, nat-abs c.requires.from) (below c.args.link _ c.requires _ refl))
