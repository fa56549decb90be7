-- Laws of the forbidden interval: the sums that make its ends, that wider extents have a wider one, and that of the extents of two boxes it is
-- document 01's. Assumes nothing.
use mathlib.Core.Path.{◌≡◌}
use mathlib.Core.Bool.{true}
use mathlib.Core.List.{List}
use Prim.Native.Nat.{ℕ, ◌+◌, ◌<◌, ◌^◌}
use lib.Dec.{T, ltb}
use lib.IntN.{ℤ, pos, ◌+ℤ◌, ◌-ℤ◌}
use lib.Signed.{◌≤ℤ◌}
use mir.Syntax.{w64}
use mir.Val.{SFits, to_z}
use Rattle.integers.specs.Integer.{within}
use Rattle.integers.proofs.Ints.{ints, lin, v, ◌⊕◌, ◌⊖◌, within-true, true-within}
use Rattle.integers.proofs.Machine.{Expr, size_of, bits_of, num, ◌+ʷ◌, sum_fits, diff-fits}
use Rattle.sheet.specs.Layout.{dims, offset, size, clearance, low, high}
use Rattle.sheet.specs.Allowed.{forbid_from, forbid_to}
use Rattle.outline.specs.declared.solid.Extent.{Extent}
use Rattle.outline.specs.Solids.{IsBox}
use Rattle.forbid.specs.Interval.{forbid_first, forbid_last}
use Rattle.forbid.specs.Pair.{extent_of}

-- ---- the sums: a negated bound that is added is taken away, and a literal that is added fits, whichever it is, and what is then taken away
module _ (own other : Extent) where
  pub first-sum : (high g : ℤ) → high +ℤ other.start +ℤ (pos 0 -ℤ own.end) +ℤ pos 1 -ℤ g ≡ forbid_first own other high g
  unfolding forbid_first
  first-sum high g = omega (
    ints,
    lin (v high ⊕ v other.start ⊕ (v (pos 0) ⊖ v own.end) ⊕ v (pos 1) ⊖ v g),
    lin (v high ⊕ v other.start ⊖ v own.end ⊕ v (pos 1) ⊖ v g),
  )

  pub last_sum : (low g : ℤ) → low +ℤ other.end +ℤ (pos 0 -ℤ own.start) -ℤ pos 1 +ℤ g ≡ forbid_last own other low g
  unfolding forbid_last
  last_sum low g = omega (
    ints,
    lin (v low ⊕ v other.end ⊕ (v (pos 0) ⊖ v own.start) ⊖ v (pos 1) ⊕ v g),
    lin (v low ⊕ v other.end ⊖ v own.start ⊖ v (pos 1) ⊕ v g),
  )

pub add-literal-fits : (x : Expr) (k : ℕ) → T (ltb (size_of x + k) (2 ^ 63)) → SFits w64 (to_z w64 (bits_of x) +ℤ to_z w64 k)
add-literal-fits x k t = sum_fits x (num k) t

pub literal-less-fits : (x y : Expr) (k : ℕ) → T (ltb (size_of x + k + size_of y) (2 ^ 63))
    → SFits w64 (to_z w64 (bits_of (x +ʷ num k)) -ℤ to_z w64 (bits_of y))
literal-less-fits x y k t = diff-fits (x +ʷ num k) y t

-- ---- wider extents, a wider interval
pub interval-wider : (own own' other other' : Extent) (low high g z : ℤ) → own'.start ≤ℤ own.start → own.end ≤ℤ own'.end
    → other'.start ≤ℤ other.start → other.end ≤ℤ other'.end → within (forbid_first own other high g) (forbid_last own other low g) z ≡ true
    → within (forbid_first own' other' high g) (forbid_last own' other' low g) z ≡ true
unfolding forbid_first forbid_last
interval-wider own own' other other' low high g z os oe ts te e =
    let w = within-true e in
    true-within
    (omega (
      ints,
      w.0,
      lin (v high ⊕ v other.start ⊖ v own.end ⊕ v (pos 1) ⊖ v g),
      lin (v high ⊕ v other'.start ⊖ v own'.end ⊕ v (pos 1) ⊖ v g),
    ))
    (omega (
      ints,
      w.1,
      lin (v low ⊕ v other.end ⊖ v own.start ⊖ v (pos 1) ⊕ v g),
      lin (v low ⊕ v other'.end ⊖ v own'.start ⊖ v (pos 1) ⊕ v g),
    ))

-- ---- of two boxes
module _ (block t : List ℤ) {o : List ℤ} (r i j : ℕ) {b c d : ℕ} (x : IsBox block o b) (y : IsBox block o c) (h : d < dims block) where
  pub first-of-boxes : forbid_first (extent_of o b d) (extent_of o c d) (high block t j d) (clearance block r d) ≡ forbid_from block t r i b j c d
  unfolding forbid_first forbid_from
  first-of-boxes = rw (x.ends d h, y.starts d h)
      (omega (
        ints,
        lin (v (high block t j d) ⊕ v (offset block c d) ⊖ (v (offset block b d) ⊕ v (size block b d)) ⊕ v (pos 1) ⊖ v (clearance block r d)),
        lin (v (high block t j d) ⊕ v (offset block c d) ⊖ v (offset block b d) ⊖ v (size block b d) ⊕ v (pos 1) ⊖ v (clearance block r d)),
      ))

  pub last-of-boxes : forbid_last (extent_of o b d) (extent_of o c d) (low block t j d) (clearance block r d) ≡ forbid_to block t r i b j c d
  unfolding forbid_last forbid_to
  last-of-boxes = rw (x.starts d h, y.ends d h)
      (omega (
        ints,
        lin (v (low block t j d) ⊕ (v (offset block c d) ⊕ v (size block c d)) ⊖ v (offset block b d) ⊖ v (pos 1) ⊕ v (clearance block r d)),
        lin (v (low block t j d) ⊕ v (offset block c d) ⊕ v (size block c d) ⊖ v (offset block b d) ⊖ v (pos 1) ⊕ v (clearance block r d)),
      ))
