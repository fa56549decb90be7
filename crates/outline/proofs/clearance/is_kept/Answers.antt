-- `outline::clearance::is_kept` meets its contract: each dimension of the sheet has clearance enough. Assumes nothing.
use mathlib.Core.Path.{◌≡◌}
use Prim.Native.Nat.{ℕ, ◌<◌}
use native.Mathlib.Omega.{arith}
use lib.ListN.{get_or}
use Rattle.std.specs.List.{range_with_len}
use Rattle.std.proofs.lemmas.Iterator.{YieldsList-from_range, cases_from_all}
use Rattle.std.proofs.lemmas.List.FromFn.{get_or-range_with_len}
use Rattle.sheet.specs.Layout.{dims}
use Rattle.outline.specs.Clearance.{KeepsIn}
use borrow.Author.Rules.{rules}
use borrow.Author.Tests.{tests}
use Rattle.outline.proofs.clearance.is_kept.Goals as goal

pub returns : goal.returns
returns c = λ e d l.
    let a = c.args in
    let few : d < 4 = omega (arith, c.requires.accepted.head.few_dims) in
    let is : get_or (range_with_len 0 4) d 0 ≡ d = omega (arith, get_or-range_with_len 0 4 d 0 few) in
    let told = cases_from_all _ _ _ (λ (d : ℕ). d < dims a.block.now → KeepsIn a.block.now a.q.number a.r.number d) (λ x. Unit {0}) c.all.ensures.ran
    (YieldsList-from_range 0 4 4 (search rules) (omega arith)) (λ x q k. search (rules, tests)) (λ x q k. tt) in
    let there = (rw e at told) d 0 (omega arith) few in
    (rw is at there) l
