-- What is allowed and what is forbidden, taken apart and put together: a point is forbidden by a rule and another row (`Forbids`),
-- by every shape of the other row's set, each by a pair of boxes (`Pair`). Every other proof cites these laws and not the definitions.
-- Assumes nothing.
use mathlib.Core.Path.{◌≡◌, sym, ap, subst}
use mathlib.Core.Bool.{Bool, true, false, not}
use mathlib.Core.List.{List}
use Prim.Native.Nat.{ℕ, ◌≤◌, ◌<◌}
use lib.IntN.{ℤ}
use lib.Signed.{◌≤ℤ◌}
use borrow.Author.Tests.{eqb-false, ne_eqb}
use Rattle.integers.specs.Below.{◌⇒◌}
use Rattle.integers.specs.Words.{word}
use Rattle.integers.proofs.Booleans.{and-true, true-and, implies_true, true_implies, not-true, fails, both_ways}
use Rattle.integers.proofs.Below.{all-at, at_all, any_at, any-true, upto-at, at-upto, some-upto, upto-some}
use Rattle.integers.proofs.Ints.{within-true, true-within}
use Rattle.integers.proofs.Sets.{member-ge-1, only-held, same-only}
use Rattle.sheet.specs.Layout.{dims, axes, boxes, rules, is_of, is_non_overlap, names_dim, names_row, rows, shape_set, low, high}
use Rattle.sheet.specs.Layout.{has_shape, has_only}
use Rattle.sheet.specs.Allowed.{rooms_hold, in_ranges, forbid_from, forbid_to, pair_forbids, shapes_forbid, set_forbids}
use Rattle.sheet.specs.Allowed.{row_forbids, forbidden, allowed}

-- every dimension of a box is an axis
pub axis : (block : List ℤ) {d : ℕ} → d < dims block → d < axes block
unfolding axes
axis block h = h

module _ (block : List ℤ) (table : List ℤ) where
  -- ---- the three parts of allowed
  pub allowed-parts : (i s : ℕ) (p : List ℤ) → allowed block table i s p ≡ true
      → (in_ranges block table i p ≡ true) × (rooms_hold block i s p ≡ true) × (forbidden block table i s p ≡ false)
  unfolding allowed
  allowed-parts i s p e = let u = and-true e in let v = and-true u.0 in (v.0, v.1, not-true u.1)

  pub allowed-by : (i s : ℕ) (p : List ℤ) → in_ranges block table i p ≡ true → rooms_hold block i s p ≡ true
      → (forbidden block table i s p ≡ true → ⊥) → allowed block table i s p ≡ true
  unfolding allowed
  allowed-by i s p r h f = true-and (true-and r h) (ap not (fails f))

  -- ---- the ranges
  pub in-range : (i d : ℕ) (p : List ℤ) → in_ranges block table i p ≡ true → d < axes block
      → (low block table i d ≤ℤ word p d) × (word p d ≤ℤ high block table i d)
  unfolding in_ranges
  in-range i d p e h = within-true (all-at _ e d h)

  pub ranges-by : (i : ℕ) (p : List ℤ)
      → ((d : ℕ) → d < axes block → (low block table i d ≤ℤ word p d) × (word p d ≤ℤ high block table i d))
      → in_ranges block table i p ≡ true
  unfolding in_ranges
  ranges-by i p h = at_all (λ d l. true-within (h d l).0 (h d l).1)

  -- ---- a pair of boxes
  pub pair-at : (r i b j c d : ℕ) (p : List ℤ) → pair_forbids block table r p i b j c ≡ true → d < dims block → names_dim block r d ≡ true
      → (forbid_from block table r i b j c d ≤ℤ word p d) × (word p d ≤ℤ forbid_to block table r i b j c d)
  unfolding pair_forbids
  pair-at r i b j c d p e h n = within-true (implies_true (all-at _ e d h) n)

  pub pair-by : (r i b j c : ℕ) (p : List ℤ)
      → ((d : ℕ) → d < dims block → names_dim block r d ≡ true
      → (forbid_from block table r i b j c d ≤ℤ word p d) × (word p d ≤ℤ forbid_to block table r i b j c d))
      → pair_forbids block table r p i b j c ≡ true
  unfolding pair_forbids
  pair-by r i b j c p h = at_all (λ d l. true_implies (λ n. true-within (h d l n).0 (h d l n).1))

  -- some box of s and some box of s'
  pub record Pair (r : ℕ) (p : List ℤ) (i s j s' : ℕ) : Type 0 where
    pub own : ℕ
    pub other : ℕ
    pub own_below : own < boxes block
    pub other_below : other < boxes block
    pub own_is : is_of block own s ≡ true
    pub other_is : is_of block other s' ≡ true
    pub pair : pair_forbids block table r p i own j other ≡ true

  pub shapes-by : (r i s j s' : ℕ) (p : List ℤ) → Pair r p i s j s' → shapes_forbid block table r p i s j s' ≡ true
  unfolding shapes_forbid
  shapes-by r i s j s' p f =
      any-true _ f.own f.own_below (true-and f.own_is
      (any-true _ f.other f.other_below (true-and f.other_is f.pair)))

  pub shapes-parts : (r i s j s' : ℕ) (p : List ℤ) → shapes_forbid block table r p i s j s' ≡ true → Pair r p i s j s'
  unfolding shapes_forbid
  shapes-parts r i s j s' p e =
      let b = any_at e in
      let b2 = and-true b.2 in
      let c = any_at b2.1 in
      let c2 = and-true c.2 in
      record { own = b.0; other = c.0; own_below = b.1; other_below = c.1; own_is = b2.0; other_is = c2.0; pair = c2.1 }

  -- ---- the other row's set
  abbrev set-test : ℕ → List ℤ → ℕ → ℕ → ℕ → ℕ → Bool
  set-test r p i s j s' = has_shape block table j s' ⇒ shapes_forbid block table r p i s j s'

  pub set-by : (r i s j : ℕ) (p : List ℤ)
      → ((s' : ℕ) → s' ≤ 32 → has_shape block table j s' ≡ true → shapes_forbid block table r p i s j s' ≡ true)
      → set_forbids block table r p i s j ≡ true
  unfolding set_forbids
  set-by r i s j p f = at-upto (set-test r p i s j) (λ s' h k. true_implies (f s' k))

  pub set_at : (r i s j : ℕ) (p : List ℤ) → set_forbids block table r p i s j ≡ true
      → (s' : ℕ) → s' ≤ 32 → has_shape block table j s' ≡ true → shapes_forbid block table r p i s j s' ≡ true
  unfolding set_forbids has_shape
  set_at r i s j p e s' k held = implies_true (upto-at (set-test r p i s j) e s' (member-ge-1 (shape_set block table j) held) k) held

  -- a set with one shape forbids what that shape does
  pub set-one : (r i s j s' : ℕ) (p : List ℤ) → s' ≤ 32 → has_only block table j s' ≡ true
      → shapes_forbid block table r p i s j s' ≡ set_forbids block table r p i s j
  unfolding has_shape has_only
  set-one r i s j s' p k only =
      both_ways _ _
      (λ e. set-by r i s j p (λ x l held. subst (λ (y : ℕ). shapes_forbid block table r p i s j y ≡ true)
      (sym (same-only (shape_set block table j) only held)) e))
      (λ e. set_at r i s j p e s' k (only-held (shape_set block table j) s' only))

  -- ---- a rule and another row
  pub record Forbids (i s : ℕ) (p : List ℤ) : Type 0 where
    pub rule : ℕ
    pub other : ℕ
    pub rule_below : rule < rules block
    pub from : 1 ≤ other
    pub upto : other ≤ rows block table
    pub kind : is_non_overlap block rule ≡ true
    pub names : names_row block rule i ≡ true
    pub another : i ≡ other → ⊥
    pub names_other : names_row block rule other ≡ true
    pub set : set_forbids block table rule p i s other ≡ true

  pub forbidden-by : (i s : ℕ) (p : List ℤ) → Forbids i s p → forbidden block table i s p ≡ true
  unfolding forbidden row_forbids
  forbidden-by i s p f =
      any-true _ f.rule f.rule_below (true-and (true-and f.kind f.names)
      (upto-some (row_forbids block table f.rule p i s) f.other f.from f.upto
      (true-and (true-and (ap not (ne_eqb i f.other f.another)) f.names_other) f.set)))

  pub forbidden-parts : (i s : ℕ) (p : List ℤ) → forbidden block table i s p ≡ true → Forbids i s p
  unfolding forbidden row_forbids
  forbidden-parts i s p e =
      let r = any_at e in
      let r2 = and-true r.2 in
      let r1 = and-true r2.0 in
      let j = some-upto (row_forbids block table r.0 p i s) r2.1 in
      let j2 = and-true j.3 in
      let j1 = and-true j2.0 in
      record {
        rule = r.0;
        other = j.0;
        rule_below = r.1;
        from = j.1;
        upto = j.2;
        kind = r1.0;
        names = r1.1;
        another = eqb-false i j.0 (not-true j1.0);
        names_other = j1.1;
        set = j2.1;
      }

-- ---- what each pair of boxes forbids under rule r in table t, it forbids under rule q in table u: so do shapes, and so does a set that holds
-- no other shapes
module _ (block t u : List ℤ) (r q i s j : ℕ) (p : List ℤ)
    (pairs : (b c : ℕ) → pair_forbids block t r p i b j c ≡ true → pair_forbids block u q p i b j c ≡ true) where
  shapes-carry : (s' : ℕ) → shapes_forbid block t r p i s j s' ≡ true → shapes_forbid block u q p i s j s' ≡ true
  shapes-carry s' e =
      let w = shapes-parts block t r i s j s' p e in
      shapes-by block u q i s j s' p (record {
        own = w.own;
        other = w.other;
        own_below = w.own_below;
        other_below = w.other_below;
        own_is = w.own_is;
        other_is = w.other_is;
        pair = pairs w.own w.other w.pair;
      })

  pub set-carries : ((s' : ℕ) → has_shape block u j s' ≡ true → has_shape block t j s' ≡ true)
      → set_forbids block t r p i s j ≡ true → set_forbids block u q p i s j ≡ true
  set-carries held e = set-by block u q i s j p (λ s' k h. shapes-carry s' (set_at block t r i s j p e s' k (held s' h)))
