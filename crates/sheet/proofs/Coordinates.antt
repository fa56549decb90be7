-- Coordinates from the last dimension on do not matter: what is allowed at a point is allowed at every point that agrees with it
-- in each dimension. Assumes nothing.
use mathlib.Core.Path.{◌≡◌, ap, ap₂}
use mathlib.Core.Bool.{Bool, not, ◌&&◌}
use mathlib.Core.List.{List}
use Prim.Native.Nat.{ℕ, suc, ◌<◌}
use lib.Dec.{eqb}
use lib.IntN.{ℤ, ◌+ℤ◌}
use lib.Signed.{le_z}
use Rattle.integers.specs.Integer.{within}
use Rattle.integers.specs.Below.{◌⇒◌}
use Rattle.integers.specs.Words.{word}
use Rattle.integers.proofs.Below.{all_same, any_same}
use Rattle.sheet.specs.Layout.{axes, offset, size, is_of, is_non_overlap, is_containment, room_low, room_high, names_dim}
use Rattle.sheet.specs.Layout.{names_row, low, high, has_shape}
use Rattle.sheet.specs.Allowed.{box_contained, rooms_hold, in_ranges, forbid_from, forbid_to, pair_forbids, shapes_forbid}
use Rattle.sheet.specs.Allowed.{set_forbids, row_forbids, forbidden, allowed}
use Rattle.sheet.specs.Narrow.{row_allowed}
use Rattle.sheet.proofs.Forbidden.{axis}

module _ (block : List ℤ) (table : List ℤ) where
  abbrev pub Agree : List ℤ → List ℤ → Type 0
  Agree p q = (d : ℕ) → d < axes block → word p d ≡ word q d

  module _ (p q : List ℤ) (h : Agree p q) where
    ranges-agree : (i : ℕ) → in_ranges block table i p ≡ in_ranges block table i q
    unfolding in_ranges
    ranges-agree i = all_same (λ d l. ap (within (low block table i d) (high block table i d)) (h d l))

    box-agree : (r b : ℕ) → box_contained block r b p ≡ box_contained block r b q
    unfolding box_contained
    box-agree r b =
        all_same (λ d l.
        ap (λ (z : ℤ). names_dim block r d ⇒ le_z (room_low block r d) (z +ℤ offset block b d)
        && le_z (z +ℤ offset block b d +ℤ size block b d) (room_high block r d))
        (h d (axis block l)))

    rooms-agree : (i s : ℕ) → rooms_hold block i s p ≡ rooms_hold block i s q
    unfolding rooms_hold
    rooms-agree i s =
        all_same (λ r m. ap (λ (x : Bool). is_containment block r && names_row block r i ⇒ x)
        (all_same (λ b l. ap (λ (x : Bool). is_of block b s ⇒ x) (box-agree r b))))

    pair-agree : (r i b j c : ℕ) → pair_forbids block table r p i b j c ≡ pair_forbids block table r q i b j c
    unfolding pair_forbids
    pair-agree r i b j c =
        all_same (λ d l.
        ap (λ (z : ℤ). names_dim block r d ⇒ within (forbid_from block table r i b j c d) (forbid_to block table r i b j c d) z) (h d (axis block l)))

    shapes-agree : (r i s j s' : ℕ) → shapes_forbid block table r p i s j s' ≡ shapes_forbid block table r q i s j s'
    unfolding shapes_forbid
    shapes-agree r i s j s' =
        any_same (λ b l. ap (λ (x : Bool). is_of block b s && x)
        (any_same (λ c m. ap (λ (x : Bool). is_of block c s' && x) (pair-agree r i b j c))))

    row-agree : (r i s j : ℕ) → row_forbids block table r p i s j ≡ row_forbids block table r q i s j
    unfolding row_forbids set_forbids
    row-agree r i s j =
        ap (λ (x : Bool). not (eqb i j) && names_row block r j && x)
        (all_same (λ m l. ap (λ (x : Bool). has_shape block table j (suc m) ⇒ x) (shapes-agree r i s j (suc m))))

    pub forbidden-agree : (i s : ℕ) → forbidden block table i s p ≡ forbidden block table i s q
    unfolding forbidden
    forbidden-agree i s =
        any_same (λ r m. ap (λ (x : Bool). is_non_overlap block r && names_row block r i && x) (any_same (λ j l. row-agree r i s (suc j))))

    pub allowed-agree : (i s : ℕ) → allowed block table i s p ≡ allowed block table i s q
    unfolding allowed
    allowed-agree i s = ap₂ ◌&&◌ (ap₂ ◌&&◌ (ranges-agree i) (rooms-agree i s)) (ap not (forbidden-agree i s))

    pub row-allowed-agree : (i : ℕ) → row_allowed block table i p ≡ row_allowed block table i q
    unfolding row_allowed
    row-allowed-agree i = any_same (λ s l. ap (λ (x : Bool). has_shape block table i (suc s) && x) (allowed-agree i (suc s)))
