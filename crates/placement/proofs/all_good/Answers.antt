-- `placement::all_good` meets its contract: each row is clear of the rows before it, or one is bad. Assumes nothing.
use mathlib.Core.Path.{◌≡◌, refl, sym, subst}
use mathlib.Core.Bool.{Bool, true, false}
use mathlib.Core.List.{List}
use Prim.Native.Nat.{ℕ, ◌+◌, ◌-◌, ◌<◌}
use native.Mathlib.Omega.{arith}
use lib.IntN.{ℤ}
use lib.ListN.{length, get_or}
use Rattle.std.proofs.Common.{rules, tests}
use Rattle.std.specs.Bool.{MatchBool}
use Rattle.std.specs.List.{range_with_len, AllWithin, HoldsAt}
use Rattle.std.proofs.lemmas.Iterator.{YieldsList-from_range, cases_from_all}
use Rattle.std.proofs.lemmas.List.FromFn.{length-range_with_len, get_or-range_with_len}
use Rattle.sheet.specs.Layout.{rows}
use Rattle.sheet.specs.Placement.{fixed, good}
use Rattle.accept.proofs.Turns.{upto_false}
use Rattle.placement.specs.Rows.{row_good}
use Rattle.placement.specs.Before.{Clear, Judged}
use Rattle.placement.proofs.Earlier.{clear-good}
use Rattle.placement.proofs.all_good.Goals as goal

module _ (block t : List ℤ) (all-fixed : fixed block t ≡ true) where
  abbrev judged : Bool → ℕ → Type 0
  judged b m = Judged block t (m + 1) b

  -- what the judging of n rows found
  abbrev found : ℕ → Bool → Type 0
  found n r =
      let ms = range_with_len 0 n in
      MatchBool r (AllWithin (judged true) ms 0 (length ms)) ((k : ℕ) × (k < length ms) × HoldsAt (judged false) ms k)

  is-good : (n : ℕ) → n ≡ rows block t → (r : Bool) → found n r → r ≡ good block t
  unfolding good
  is-good n e true all =
      sym (clear-good block t all-fixed (λ i row.
      let l : i - 1 < n = omega (arith, e, row.from, row.upto) in
      let q : get_or (range_with_len 0 n) (i - 1) 0 + 1 ≡ i = omega (arith, get_or-range_with_len 0 n (i - 1) 0 l, row.from) in
      subst (Clear block t) q ((all (i - 1) 0 (omega arith) (omega (arith, l, length-range_with_len 0 n))).clear refl)))
  is-good n e false some =
      let l : some.0 < n = omega (arith, some.1, length-range_with_len 0 n) in
      let q : get_or (range_with_len 0 n) some.0 0 ≡ some.0 = omega (arith, get_or-range_with_len 0 n some.0 0 l) in
      sym (upto_false (row_good block t) (omega (arith, l, e)) ((subst (judged false) q (some.2 0)).bad refl))

pub returns : goal.returns
returns c =
    let a = c.args in
    let f = judged a.block.now a.table.now c.requires.all_fixed in
    is-good a.block.now a.table.now c.requires.all_fixed c.rows_of.result c.rows_of.ensures _
    (cases_from_all _ _ _ (f true) (f false) c.all.ensures.ran
    (YieldsList-from_range 0 c.rows_of.result c.rows_of.result (search rules) (omega arith))
    (λ x q k. search (rules, tests)) (λ x q k. search (rules, tests)))
