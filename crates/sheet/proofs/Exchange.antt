-- Two fixed rows and a pair of boxes: the pair forbids a row's origin exactly when the boxes are not clear of each other in some
-- named dimension (`pair-not-clear`), and that is the same whichever row stands first (`exchange`). A box that starts where the
-- other's clearance ends is clear both ways (`touching`). Assumes nothing.
use mathlib.Core.Path.{◌≡◌, sym, ap, ap₂, ◌∙◌}
use mathlib.Core.Bool.{Bool, true, false, not, ◌&&◌}
use mathlib.Core.List.{List}
use Prim.Native.Nat.{ℕ, ◌<◌}
use lib.IntN.{ℤ, pos, ◌+ℤ◌, ◌-ℤ◌}
use Rattle.integers.specs.Integer.{within}
use Rattle.integers.specs.Below.{◌⇒◌}
use Rattle.integers.specs.Words.{word}
use Rattle.integers.proofs.Booleans.{true-and, or_comm, or_left, implies-not}
use Rattle.integers.proofs.Below.{all_same, any_same, any-true, all-not}
use Rattle.integers.proofs.Ints.{ints, interval}
use Rattle.integers.proofs.Lists.{get_or-list_below}
use Rattle.sheet.specs.Layout.{dims, axes, offset, size, clearance, names_dim, low, high}
use Rattle.sheet.specs.Allowed.{forbid_from, forbid_to, pair_forbids}
use Rattle.sheet.specs.Placement.{point_of, box_start, box_end, is_past, clear, boxes_clear}
use Rattle.sheet.proofs.Forbidden.{axis}

module _ (block : List ℤ) (table : List ℤ) where
  -- row j has one number in each range
  abbrev pub Still : ℕ → Type 0
  Still j = (d : ℕ) → d < axes block → low block table j d ≡ high block table j d

  pub at-point : (i d : ℕ) → d < axes block → word (point_of block table i) d ≡ low block table i d
  unfolding point_of
  at-point i d h = get_or-list_below (low block table i) (pos 0) h

  not-clear : (r i b j c : ℕ) → Still j → (d : ℕ) → d < dims block
      → within (forbid_from block table r i b j c d) (forbid_to block table r i b j c d) (word (point_of block table i) d)
      ≡ not (clear block table r i b j c d)
  unfolding forbid_from forbid_to clear is_past box_start box_end
  not-clear r i b j c still d h =
      ap₂ (λ (q p : ℤ). within (q +ℤ offset block c d -ℤ offset block b d -ℤ size block b d +ℤ pos 1 -ℤ clearance block r d)
      (low block table j d +ℤ offset block c d +ℤ size block c d -ℤ offset block b d -ℤ pos 1 +ℤ clearance block r d) p)
      (sym (still d (axis block h))) (at-point i d (axis block h))
      ∙ interval (low block table j d) (offset block c d) (size block c d) (offset block b d) (size block b d) (clearance block r d)
      (low block table i d)

  pub pair-not-clear : (r i b j c : ℕ) → Still j
      → pair_forbids block table r (point_of block table i) i b j c ≡ not (boxes_clear block table r i b j c)
  unfolding pair_forbids boxes_clear
  pair-not-clear r i b j c still =
      all_same (λ d h. ap (λ (x : Bool). names_dim block r d ⇒ x) (not-clear r i b j c still d h)
      ∙ implies-not (names_dim block r d) (clear block table r i b j c d))
      ∙ all-not (dims block) (λ d. names_dim block r d && clear block table r i b j c d)

  clear_comm : (r i b j c d : ℕ) → clear block table r i b j c d ≡ clear block table r j c i b d
  unfolding clear
  clear_comm r i b j c d = or_comm (is_past block table r i b j c d) (is_past block table r j c i b d)

  pub boxes-clear-comm : (r i b j c : ℕ) → boxes_clear block table r i b j c ≡ boxes_clear block table r j c i b
  unfolding boxes_clear
  boxes-clear-comm r i b j c = any_same (λ d h. ap (λ (x : Bool). names_dim block r d && x) (clear_comm r i b j c d))

  -- EXCHANGE: the pair forbids the one row's origin exactly when it forbids the other's
  pub exchange : (r i b j c : ℕ) → Still i → Still j
      → pair_forbids block table r (point_of block table i) i b j c ≡ pair_forbids block table r (point_of block table j) j c i b
  exchange r i b j c si sj = pair-not-clear r i b j c sj ∙ ap not (boxes-clear-comm r i b j c) ∙ sym (pair-not-clear r j c i b si)

  touching-clear : (r i b j c d : ℕ) → box_end block table j c d +ℤ clearance block r d ≡ box_start block table i b d
      → clear block table r i b j c d ≡ true
  unfolding clear is_past
  touching-clear r i b j c d e = or_left {a = is_past block table r i b j c d} _ (omega ints)

  -- TOUCHING: where box b of row i starts at the end of box c of row j plus the clearance, in a named dimension, neither row's origin is forbidden
  pub touching : (r i b j c d : ℕ) → Still i → Still j → d < dims block → names_dim block r d ≡ true
      → box_end block table j c d +ℤ clearance block r d ≡ box_start block table i b d
      → (pair_forbids block table r (point_of block table i) i b j c ≡ false) × (pair_forbids block table r (point_of block table j) j c i b ≡ false)
  unfolding boxes_clear
  touching r i b j c d si sj h n e = (free, sym (exchange r i b j c si sj) ∙ free)
    where
      free : pair_forbids block table r (point_of block table i) i b j c ≡ false
      free = pair-not-clear r i b j c sj
          ∙ ap not (any-true (λ d. names_dim block r d && clear block table r i b j c d) d h (true-and n (touching-clear r i b j c d e)))
