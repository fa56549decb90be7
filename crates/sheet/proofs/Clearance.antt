-- What a clearance does. A rule with none in any dimension is the rule of documents 01 and 003, which know of none (`pair-plain`,
-- `boxes-plain`); more clearance, in fewer dimensions, forbids more (`pair-wider`); and boxes that are clear of each other with a clearance are
-- so without it (`clear-plainly`). Assumes nothing.
use mathlib.Core.Path.{◌≡◌, ap, ap₂}
use mathlib.Core.Logic.{⊎_elim}
use mathlib.Core.Bool.{Bool, true, ◌&&◌, ◌||◌}
use mathlib.Core.List.{List}
use Prim.Native.Nat.{ℕ, ◌<◌}
use lib.IntN.{ℤ, pos, ◌+ℤ◌, ◌-ℤ◌}
use lib.Signed.{◌≤ℤ◌, le_z}
use Rattle.integers.specs.Integer.{within}
use Rattle.integers.specs.Below.{◌⇒◌, all_below, any_below}
use Rattle.integers.specs.Words.{word}
use Rattle.integers.proofs.Booleans.{or-true, or_left, or_right}
use Rattle.integers.proofs.Below.{all_same, any_same}
use Rattle.integers.proofs.Ints.{ints, lin, v, ◌⊕◌, ◌⊖◌, ≤ℤ-trans, le-of-test, test-of-le}
use Rattle.sheet.specs.Layout.{dims, offset, size, clearance, names_dim, low, high}
use Rattle.sheet.specs.Allowed.{forbid_from, forbid_to, pair_forbids}
use Rattle.sheet.specs.Placement.{box_start, box_end, is_past, clear, boxes_clear}
use Rattle.sheet.proofs.Forbidden.{pair-at, pair-by}

-- ---- an end that grows by a clearance
less_none : (x : ℤ) → x -ℤ pos 0 ≡ x
less_none x = omega (ints, lin (v x ⊖ v (pos 0)))

more-none : (x : ℤ) → x +ℤ pos 0 ≡ x
more-none x = omega (ints, lin (v x ⊕ v (pos 0)))

less_by : (x : ℤ) {g h : ℤ} → g ≤ℤ h → (x -ℤ h) ≤ℤ (x -ℤ g)
less_by x {g} {h} e = omega (ints, lin (v x ⊖ v h), lin (v x ⊖ v g))

more_by : (x : ℤ) {g h : ℤ} → g ≤ℤ h → (x +ℤ g) ≤ℤ (x +ℤ h)
more_by x {g} {h} e = omega (ints, lin (v x ⊕ v g), lin (v x ⊕ v h))

module _ (block : List ℤ) (table : List ℤ) where
  -- ---- the rule without clearances: document 01's interval, and the catalogue's test
  abbrev pub plain_from : ℕ → ℕ → ℕ → ℕ → ℤ
  plain_from b j c d = high block table j d +ℤ offset block c d -ℤ offset block b d -ℤ size block b d +ℤ pos 1

  abbrev pub plain_to : ℕ → ℕ → ℕ → ℕ → ℤ
  plain_to b j c d = low block table j d +ℤ offset block c d +ℤ size block c d -ℤ offset block b d -ℤ pos 1

  abbrev pub plain_past : ℕ → ℕ → ℕ → ℕ → ℕ → Bool
  plain_past i b j c d = le_z (box_end block table j c d) (box_start block table i b d)

  abbrev pub plain_clear : ℕ → ℕ → ℕ → ℕ → ℕ → Bool
  plain_clear i b j c d = plain_past i b j c d || plain_past j c i b d

  -- NO CLEARANCE: the interval, the pair and the catalogue's test are those
  module _ (r : ℕ) (none : (d : ℕ) → d < dims block → clearance block r d ≡ pos 0) where
    pub from-plain : (i b j c d : ℕ) → d < dims block → forbid_from block table r i b j c d ≡ plain_from b j c d
    unfolding forbid_from
    from-plain i b j c d h = rw (none d h) (less_none (plain_from b j c d))

    pub to-plain : (i b j c d : ℕ) → d < dims block → forbid_to block table r i b j c d ≡ plain_to b j c d
    unfolding forbid_to
    to-plain i b j c d h = rw (none d h) (more-none (plain_to b j c d))

    past-plain : (i b j c d : ℕ) → d < dims block → is_past block table r i b j c d ≡ plain_past i b j c d
    unfolding is_past
    past-plain i b j c d h = rw (none d h) (ap (λ (z : ℤ). le_z z (box_start block table i b d)) (more-none (box_end block table j c d)))

    pub clear-plain : (i b j c d : ℕ) → d < dims block → clear block table r i b j c d ≡ plain_clear i b j c d
    unfolding clear
    clear-plain i b j c d h = ap₂ ◌||◌ (past-plain i b j c d h) (past-plain j c i b d h)

    pub pair-plain : (i b j c : ℕ) (p : List ℤ) → pair_forbids block table r p i b j c
        ≡ all_below (dims block) (λ d. names_dim block r d ⇒ within (plain_from b j c d) (plain_to b j c d) (word p d))
    unfolding pair_forbids
    pair-plain i b j c p = all_same (λ d h. ap₂ (λ (x y : ℤ). names_dim block r d ⇒ within x y (word p d))
        (from-plain i b j c d h) (to-plain i b j c d h))

    pub boxes-plain : (i b j c : ℕ) → boxes_clear block table r i b j c
        ≡ any_below (dims block) (λ d. names_dim block r d && plain_clear i b j c d)
    unfolding boxes_clear
    boxes-plain i b j c = any_same (λ d h. ap (λ (x : Bool). names_dim block r d && x) (clear-plain i b j c d h))

  -- MORE CLEARANCE: what rule r forbids, rule q forbids, where it names no other dimension and has no less clearance in those that it names
  module _ (r q : ℕ) (fewer : (d : ℕ) → d < dims block → names_dim block q d ≡ true → names_dim block r d ≡ true)
      (more : (d : ℕ) → d < dims block → names_dim block q d ≡ true → clearance block r d ≤ℤ clearance block q d) where
    pub pair-wider : (i b j c : ℕ) (p : List ℤ) → pair_forbids block table r p i b j c ≡ true → pair_forbids block table q p i b j c ≡ true
    unfolding forbid_from forbid_to
    pair-wider i b j c p e = pair-by block table q i b j c p (λ d l n.
        let w = pair-at block table r i b j c d p e l (fewer d l n) in
        let g = more d l n in
        (≤ℤ-trans (less_by (plain_from b j c d) g) w.0, ≤ℤ-trans w.1 (more_by (plain_to b j c d) g)))

  -- NEVER LESS: boxes that are clear of each other under a rule do not overlap
  past-plainly : (r i b j c d : ℕ) → pos 0 ≤ℤ clearance block r d → is_past block table r i b j c d ≡ true → plain_past i b j c d ≡ true
  unfolding is_past
  past-plainly r i b j c d g e =
      test-of-le (≤ℤ-trans (rw (more-none (box_end block table j c d)) at (more_by (box_end block table j c d) g)) (le-of-test e))

  pub clear-plainly : (r i b j c d : ℕ) → pos 0 ≤ℤ clearance block r d → clear block table r i b j c d ≡ true → plain_clear i b j c d ≡ true
  unfolding clear
  clear-plainly r i b j c d g e =
      ⊎_elim
      (λ x. or_left (plain_past j c i b d) (past-plainly r i b j c d g x))
      (λ x. or_right (plain_past i b j c d) (past-plainly r j c i b d g x))
      (or-true e)
