-- A list that has nothing: no point of the row's ranges is forbidden (`nothing-forbids`). Assumes nothing.
use Rattle.std.specs.Option.{option_eq}
use Rattle.std.specs.Prelude.{Option, IfSome}
use Rattle.std.proofs.Common.{None, Some}
use mathlib.Core.Path.{◌≡◌, refl, subst}
use Prim.Native.Nat.{ℕ}
use mathlib.Core.Bool.{true, false}
use mathlib.Core.List.{List}
use native.Mathlib.Omega.{arith}
use lib.Dec.{eqb}
use lib.IntN.{ℤ}
use borrow.Author.Tests.{eqb-true}
use Rattle.integers.proofs.Booleans.{clash, fails, and-true}
use Rattle.integers.proofs.Below.{false-any}
use Rattle.sheet.specs.Allowed.{in_ranges, forbidden}
use Rattle.nearby.specs.declared.Nearby.{Nearby}
use Rattle.nearby.specs.Places.{known_count}
use Rattle.nearby.specs.Known.{known_holds}
use Rattle.nearby.specs.Listing.{Listed, lists_nothing}

at_zero : (count : Option ℕ) (P : ℕ → Type 0) → option_eq eqb count (Some 0) ≡ true → IfSome count P → P 0
at_zero None P e h = clash e refl
at_zero (Some n) P e h = subst P (eqb-true n 0 e) h

pub nothing-forbids : {block t list known : List ℤ} {x : Nearby} → Listed block t x list known → lists_nothing x known ≡ true
    → (p : List ℤ) → in_ranges block t x.i.number p ≡ true → forbidden block t x.i.number x.s p ≡ false
unfolding lists_nothing known_holds
nothing-forbids {known} {x} listed e p inside =
    let w : (option_eq eqb x.count (Some 0) ≡ true) × (eqb (known_count known) 0 ≡ true) = and-true e in
    let none-known : known_count known ≡ 0 = eqb-true _ _ w.1 in
    fails (λ f.
    let met = at_zero x.count _ w.0 listed.meets p inside (false-any (λ m l. absurd (omega (arith, none-known)))) f in
    absurd (omega (arith, met.below)))
