-- The code's forms of a few tests: a kind is 1 or 2, the set of the numbers 1 to n, whole rows. Assumes nothing.
use mathlib.Core.Path.{◌≡◌, ap}
use mathlib.Core.Logic.{⊎_elim}
use mathlib.Core.Bool.{true, not, ◌||◌}
use mathlib.Core.List.{List}
use Prim.Native.Nat.{ℕ, ◌-◌, ◌*◌, ◌%◌, ◌^◌, ◌≤◌, ◌<◌}
use native.Mathlib.Nat.{one-mul, mod-eq_of_lt, div-mul-le_self}
use native.Mathlib.Omega.{arith}
use borrow.Author.Tests.{lt-ltb, lt-leb, ltb-true, leb-false}
use lib.Dec.{leb, ltb}
use lib.IntN.{ℤ, pos}
use lib.ListN.{length}
use lib.Pow.{pow_pos}
use mir.Syntax.{w64}
use mir.Val.{SFits}
use Rattle.integers.specs.Integer.{eq_z, within}
use Rattle.integers.proofs.Booleans.{not-true, decide, both_ways, or-true, or_left, or_right}
use Rattle.integers.proofs.Ints.{ints, within-true}
use Rattle.integers.proofs.Sets.{full-le}
use Rattle.sheet.specs.Layout.{row_len, kind, is_non_overlap, is_containment, rows}

one-or-two : (z : ℤ) → within (pos 1) (pos 2) z ≡ (eq_z z (pos 1) || eq_z z (pos 2))
one-or-two z = both_ways _ _ into out
  where
    into : within (pos 1) (pos 2) z ≡ true → (eq_z z (pos 1) || eq_z z (pos 2)) ≡ true
    into e =
        let w = within-true e in
        ⊎_elim (λ q. or_left _ q) (λ q. or_right (eq_z z (pos 1)) {b = eq_z z (pos 2)} (omega ints)) (decide (eq_z z (pos 1)))

    out : (eq_z z (pos 1) || eq_z z (pos 2)) ≡ true → within (pos 1) (pos 2) z ≡ true
    out e = ⊎_elim (λ q. omega ints) (λ q. omega ints) (or-true {a = eq_z z (pos 1)} e)

pub kinds : (block : List ℤ) (r : ℕ) → within (pos 1) (pos 2) (kind block r) ≡ (is_non_overlap block r || is_containment block r)
unfolding is_non_overlap is_containment
kinds block r = one-or-two (kind block r)

-- ---- the set of the numbers 1 to n, as the code shifts it
pub power-fits : {n : ℕ} → n ≤ 32 → 1 * 2 ^ n % 18446744073709551616 ≡ 2 ^ n
power-fits {n} h =
    let l : 2 ^ n < 18446744073709551616 = omega (arith, full-le h, pow_pos n) in
    rw (one-mul (2 ^ n)) (mod-eq_of_lt l)

pub full-fits : {n : ℕ} → n ≤ 32 → SFits w64 (pos (2 ^ n - 1))
full-fits {n} h = record { sfits = omega (arith, full-le {m = n} {n = 32} h) }

-- ---- lengths
pub rows_fit : (block : List ℤ) (t : List ℤ) → rows block t * row_len block ≤ length t
unfolding rows
rows_fit block t = div-mul-le_self (length t) (row_len block)

pub ltb-not-leb : (a b : ℕ) → ltb a b ≡ not (leb b a)
ltb-not-leb a b = both_ways _ _ (λ e. ap not (lt-leb b a (ltb-true a b e))) (λ e. lt-ltb a b (leb-false b a (not-true e)))
