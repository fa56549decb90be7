-- A row's shapes are among the 32. A set below a power holds no shape past it, and none before its trailing zeros end; a set with one shape
-- holds no other. Assumes nothing.
use mathlib.Core.Path.{◌≡◌, subst}
use mathlib.Core.Bool.{true, false}
use mathlib.Core.List.{List}
use Prim.Native.Nat.{ℕ, zero, suc, ◌^◌, ◌≤◌, ◌<◌}
use native.Mathlib.Omega.{arith}
use lib.Count.{count_trailing_zeros}
use lib.IntN.{ℤ}
use Rattle.integers.specs.Integer.{nat}
use Rattle.integers.specs.Below.{any_up_to}
use Rattle.integers.specs.Bits.{bit_at, holds}
use Rattle.integers.proofs.Bits.{zero_bit, tz-below}
use Rattle.integers.proofs.Booleans.{fails}
use Rattle.integers.proofs.Below.{some-upto}
use Rattle.integers.proofs.Ints.{ints}
use Rattle.integers.proofs.Ranges.{pos-nat}
use Rattle.integers.proofs.Sets.{member-ge-1, small-set, same-only, held-only}
use Rattle.sheet.specs.Layout.{rows, shape_set, has_shape, has_only}
use Rattle.sheet.specs.Accepted.{Count, Table}

pub shape-from : (block : List ℤ) (t : List ℤ) (i s : ℕ) → has_shape block t i s ≡ true → 1 ≤ s
unfolding has_shape
shape-from block t i s e = member-ge-1 (shape_set block t i) e

pub shape-upto : {block t : List ℤ} → Table block t → {i : ℕ} → 1 ≤ i → i ≤ rows block t → (s : ℕ) → has_shape block t i s ≡ true → s ≤ 32
unfolding has_shape
shape-upto table {i} from upto s e = small-set {n = 32} (table.sets_upto i from upto) e

pub none-past : (block : List ℤ) (t : List ℤ) (i : ℕ) {s m : ℕ} → Count (shape_set block t i) → nat (shape_set block t i) < 2 ^ s → s < m
    → has_shape block t i m ≡ false
unfolding has_shape
none-past block t i {s} {m} c h k = fails (λ e. absurd (omega (arith, k, small-set {n = s} {s = m} (omega (ints, pos-nat c.from, h)) e)))

pub none_before : (block : List ℤ) (t : List ℤ) (i : ℕ) {set : ℕ} → set ≡ nat (shape_set block t i)
    → (s : ℕ) → 1 ≤ s → s ≤ count_trailing_zeros 32 set
    → has_shape block t i s ≡ false
unfolding has_shape holds
none_before block t i q zero f u = absurd (omega arith)
none_before block t i {set} q (suc d) f u =
    zero_bit (shape_set block t i) d (subst (λ (n : ℕ). bit_at n d ≡ 0) q (tz-below 32 set d (omega (arith, u))))

pub same_shape : (block : List ℤ) (t : List ℤ) (i s x : ℕ) → any_up_to 32 (has_only block t i) ≡ true → has_shape block t i s ≡ true
    → has_shape block t i x ≡ true → x ≡ s
unfolding has_shape has_only
same_shape block t i s x one held e =
    let w = some-upto (has_only block t i) one in
    same-only (shape_set block t i) (held-only (shape_set block t i) w.0 s w.3 held) e
